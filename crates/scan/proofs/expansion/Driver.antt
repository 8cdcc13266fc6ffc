-- The expansion of a text, turn by turn. Assumes nothing.
use mathlib.Core.Path.{◌≡◌, refl, sym, ap, ◌∙◌}
use mathlib.Core.List.{List, [], ◌∷◌, append-nil}
use Prim.Native.Nat.{ℕ, zero, suc, ◌+◌, ◌-◌, ◌≤◌}
use native.Mathlib.Omega.{arith}
use lib.ListN.{length, take, drop}
use Rattle.std.specs.Prelude.{Result, Ok, Err}
use Rattle.rules.specs.declared.Refusal.{Refusal}
use Rattle.rules.specs.declared.Mode.{Mode}
use Rattle.rules.specs.declared.Name.{Name}
use Rattle.rules.specs.Texts.{text_of}
use Rattle.texts.specs.Table.Places.{bytes_or}
use Rattle.rules.specs.Escapes.{Surroundings, scanned, run, scan, Action}
use Rattle.registers.specs.declared.columns.RegisterValues.{RegisterValues}
use Rattle.registers.specs.Table.Lent.{registers_with, OnlyValues, only_none, only_more}
use Rattle.scan.specs.declared.escapes.EscapeAction.{EscapeAction}
use Rattle.scan.specs.declared.expansion.Acted.TheVariants as acted
use Rattle.scan.specs.declared.expansion.Progress.{Progress}
use Rattle.scan.specs.declared.expansion.Progress.TheVariants.{Over, Ended}
use Rattle.scan.specs.Escapes.Readings.{action_in}
use Rattle.scan.specs.Output.Runs.{from, total}
use Rattle.scan.specs.Output.Writes.{Room}
use Rattle.scan.specs.Expansion.Acts.{action_behind, ActsTo}
use Rattle.scan.specs.Expansion.Expansion.{BytesFilled, ReadOver, ReadEscape, StopsIn, progress_of, CarriedOut, ExpandsTo, ScannedTo}
use Rattle.scan.proofs.output.Buffers.{later}
use Rattle.scan.proofs.expansion.Escapes.{before_nothing}

-- nothing is written yet; more is written
pub fill_none : {out : List ℕ} {written limit : ℕ} → Room out written limit → BytesFilled out written limit written out
fill_none r = record { room = r; more = omega arith; kept = refl }

pub fill_more : {out : List ℕ} {written limit n : ℕ} {out' : List ℕ} {k : ℕ} {out'' : List ℕ} → BytesFilled out written limit n out' → BytesFilled out' n limit k out'' → BytesFilled out written limit k out''
fill_more {out} {written} {limit} {n} {out'} {k} {out''} f g =
    record { room = g.room; more = omega (arith, f.more, g.more); kept = g.kept ∙ later out' out n k g.more f.kept }

-- an escape is carried out by its action, and by the text of the string that it enters
module _ {w : Surroundings} {m : Mode} {a : Action} {depth left : ℕ} {out : List ℕ} {written limit : ℕ} {q q1 : RegisterValues} {out1 : List ℕ} where
  pub wrote : {n : ℕ} → ActsTo (Ok (acted.Wrote n)) w m out written limit depth a q q1 out1
      → CarriedOut (Ok (Over left n)) w m a depth left out written limit q q1 out1
  wrote x = let s = x.acted.sound in record { is = x.acted.is left; rest = x.rest; sound = record { room = s.0; more = s.1; kept = s.2 } }

  pub ends : Room out written limit → ActsTo (Ok acted.Ends) w m out written limit depth a q q1 out1
      → CarriedOut (Ok (Ended written)) w m a depth left out written limit q q1 out1
  ends r x = record { is = x.acted.is left; rest = x.rest; sound = rw x.acted.sound (fill_none r) }

  pub refuses : {e : Refusal} → ActsTo (Err e) w m out written limit depth a q q1 out1
      → CarriedOut (Err e) w m a depth left out written limit q q1 out1
  refuses x = record { is = x.acted.is left; rest = x.rest; sound = x.acted.sound }

  pub enters : {name : Name} {p : Result Progress Refusal} {string out2 : List ℕ} {q2 : RegisterValues} → ActsTo (Ok (acted.Enters name)) w m out written limit depth a q q1 out1
      → string ≡ bytes_or (text_of name w.texts)
      → ExpandsTo p w m string (depth + 1) left out1 written limit q1 q2 out2
      → CarriedOut p w m a depth left out written limit q q2 out2
  enters x b y = record {
    is = λ t u e.
        x.acted.is left t u e ∙ ap (λ s. total w m out1 written limit left (s ∷ t ∷ u) (registers_with q1)) (sym b)
        ∙ y.is (t ∷ u) (omega arith);
    rest = only_more x.rest y.rest;
    sound = rw x.acted.sound.0 at y.sound;
  }

-- what the rules make of the text is what they make of it from i on
pub record Going (w : Surroundings) (m : Mode) (text : List ℕ) (depth left : ℕ) (out : List ℕ) (written limit : ℕ) (q q' : RegisterValues) (i l n : ℕ) (out' : List ℕ) : Type 0 where
  pub is : (u : List (List ℕ)) → length u ≡ depth
      → total w m out written limit left (text ∷ u) (registers_with q) ≡ total w m out' n limit l (drop i text ∷ u) (registers_with q')
  pub high : i ≤ length text
  pub filled : BytesFilled out written limit n out'
  pub rest : OnlyValues q q'

module _ {w : Surroundings} {m : Mode} {text : List ℕ} {depth left : ℕ} {out : List ℕ} {written limit : ℕ} {q : RegisterValues} where
  pub start : Room out written limit → Going w m text depth left out written limit q q 0 left written out
  start r = record { is = λ u e. refl; high = omega arith; filled = fill_none r; rest = only_none }

  module _ {i l n : ℕ} {out1 : List ℕ} {q1 : RegisterValues} (g : Going w m text depth left out written limit q q1 i l n out1) where
    pub over : {l2 n2 : ℕ} {out2 : List ℕ} → ReadOver text i l n limit out1 l2 n2 out2 → ExpandsTo (Ok (Over l2 n2)) w m text depth left out written limit q q1 out2
    over r = record { is = λ u e. g.is u e ∙ r.is w m u (registers_with q1); rest = g.rest; sound = fill_more g.filled r.filled }

    pub stopped : {e : Refusal} {out2 : List ℕ} → StopsIn m text i l n limit out1 e out2 → ExpandsTo (Err e) w m text depth left out written limit q q1 out2
    stopped s = record { is = λ u e. g.is u e ∙ s.is w u (registers_with q1); rest = g.rest; sound = s.long }

    module _ {end l2 n2 : ℕ} {what : EscapeAction} {out2 : List ℕ} (r : ReadEscape m text i l n limit out1 end l2 n2 what out2) where
      -- the action, behind all that is written
      here : (u : List (List ℕ)) → length u ≡ depth
          → total w m out written limit left (text ∷ u) (registers_with q) ≡ action_behind w m out2 n2 limit (action_in what) l2 (drop end text ∷ u) (registers_with q1)
      here u e = g.is u e ∙ r.is w u (registers_with q1)

      so_far : BytesFilled out written limit n2 out2
      so_far = fill_more g.filled r.filled

      module _ {out3 : List ℕ} {q3 : RegisterValues} where
        pub goes_on : {l3 n3 : ℕ} → CarriedOut (Ok (Over l3 n3)) w m (action_in what) depth l2 out2 n2 limit q1 q3 out3
            → Going w m text depth left out written limit q q3 end l3 n3 out3
        goes_on x = record { is = λ u e. here u e ∙ x.is (drop end text) u e; high = r.high; filled = fill_more so_far x.sound; rest = only_more g.rest x.rest }

        pub ended : {n3 : ℕ} → CarriedOut (Ok (Ended n3)) w m (action_in what) depth l2 out2 n2 limit q1 q3 out3
            → ExpandsTo (Ok (Ended n3)) w m text depth left out written limit q q3 out3
        ended x = record { is = λ u e. here u e ∙ x.is (drop end text) u e; rest = only_more g.rest x.rest; sound = fill_more so_far x.sound }

        pub refused : {e : Refusal} → CarriedOut (Err e) w m (action_in what) depth l2 out2 n2 limit q1 q3 out3
            → ExpandsTo (Err e) w m text depth left out written limit q q3 out3
        refused x = record { is = λ u e. here u e ∙ x.is (drop end text) u e; rest = only_more g.rest x.rest; sound = x.sound }

-- the whole line
module _ {w : Surroundings} {m : Mode} {line : List ℕ} {left : ℕ} {out : List ℕ} {limit : ℕ} {q q' : RegisterValues} {out' : List ℕ} where
  -- what the rules make of it
  whole : (prefix : ℕ) {p : Result Progress Refusal} → limit ≡ 512 - prefix → left ≡ 8192 - prefix → ExpandsTo p w m line 0 left out 0 limit q q' out'
      → progress_of p w m out' limit [] (registers_with q') ≡ scan w m (registers_with q) prefix line
  unfolding scan total
  whole prefix f h x =
      sym (x.is [] refl) ∙ before_nothing (from w m left (line ∷ []) (limit - 0) (registers_with q))
      ∙ ap (λ (k : ℕ). from w m left (line ∷ []) k (registers_with q)) (let z : limit - 0 ≡ limit = omega arith in z ∙ f)
      ∙ ap (λ (k : ℕ). from w m k (line ∷ []) (512 - prefix) (registers_with q)) h

  pub line_over : (prefix : ℕ) {l n : ℕ} → limit ≡ 512 - prefix → left ≡ 8192 - prefix → ExpandsTo (Ok (Over l n)) w m line 0 left out 0 limit q q' out'
      → ScannedTo (Ok n) w m prefix line q q' out out'
  unfolding total run
  line_over prefix {l} {n} f h x = record {
    is = nothing_left l n ∙ whole prefix f h x;
    rest = x.rest;
    kept = (omega (arith, x.sound.room.low, x.sound.room.high), x.sound.kept);
    long = x.sound.room.long;
  }
    where
      nothing_left : (l n : ℕ) → scanned (take n out') (registers_with q') ≡ total w m out' n limit l [] (registers_with q')
      nothing_left zero n = ap (λ t. scanned t (registers_with q')) (sym (append-nil (take n out')))
      nothing_left (suc l) n = ap (λ t. scanned t (registers_with q')) (sym (append-nil (take n out')))

  pub line_ended : (prefix : ℕ) {n : ℕ} → limit ≡ 512 - prefix → left ≡ 8192 - prefix → ExpandsTo (Ok (Ended n)) w m line 0 left out 0 limit q q' out'
      → ScannedTo (Ok n) w m prefix line q q' out out'
  line_ended prefix f h x = record {
    is = whole prefix f h x;
    rest = x.rest;
    kept = (omega (arith, x.sound.room.low, x.sound.room.high), x.sound.kept);
    long = x.sound.room.long;
  }

  pub line_refused : (prefix : ℕ) {e : Refusal} → limit ≡ 512 - prefix → left ≡ 8192 - prefix → ExpandsTo (Err e) w m line 0 left out 0 limit q q' out'
      → ScannedTo (Err e) w m prefix line q q' out out'
  line_refused prefix f h x = record { is = whole prefix f h x; rest = x.rest; kept = tt; long = x.sound }
