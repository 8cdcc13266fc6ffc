-- What each action comes to. Assumes nothing.
use Rattle.std.specs.Prelude.{Option, None, Some, Ok}
use mathlib.Core.Path.{◌≡◌, refl, sym, ap, ◌∙◌}
use mathlib.Core.List.{List, [], ◌∷◌}
use borrow.Author.Tests.{le-leb}
use Prim.Native.Nat.{ℕ, ◌-◌, ◌≤◌, ◌<◌}
use native.Mathlib.Omega.{arith}
use lib.ListN.{length, take, get_or}
use lib.IntN.{ℤ}
use Rattle.rules.specs.declared.Name.{Name}
use Rattle.rules.specs.declared.Turn.{Turn}
use Rattle.rules.specs.declared.Register.{Register}
use Rattle.rules.specs.declared.Mode.{Mode}
use Rattle.rules.specs.Registers.{Reference, step_register, decimal}
use Rattle.rules.specs.Texts.{Text, text, text_of}
use Rattle.rules.specs.Escapes.{Surroundings, number, a_string, writes, wants, gives, written_before, follow, next_byte, show_it, enter, run}
use Rattle.registers.specs.declared.interpolation.Shown.{Shown}
use Rattle.registers.specs.declared.columns.RegisterValues.{RegisterValues}
use Rattle.registers.specs.Table.Lent.{registers_with}
use Rattle.registers.specs.Interpolation.ReadOnly.{seen_of, ReferTo}
use Rattle.scan.specs.declared.expansion.Acted.TheVariants.{Wrote, Enters}
use Rattle.scan.specs.Output.Runs.{scan_outside, from, run_action, total}
use Rattle.scan.specs.Output.Writes.{Room, Put}
use Rattle.scan.specs.Expansion.Acts.{action_behind, ActedTo, ShownTo, EnteredTo}
use Rattle.rules.specs.declared.Kind.TheVariants.{String}
use Rattle.texts.specs.declared.table.Spot.{Spot}
use Rattle.texts.specs.declared.columns.TextsRef.{TextsRef}
use Rattle.texts.specs.Table.Lent.{texts_at, FoundIn}
use Rattle.texts.specs.Table.Places.{part_of, bytes_or}
use Rattle.scan.proofs.expansion.Escapes.{before_nothing}
use Rattle.scan.specs.Arguments.Around.{given_at}
use Rattle.scan.proofs.expansion.Givens.{given_at_lem}
use Rattle.scan.proofs.expansion.Totals.{put_total}

-- bytes are written
pub acted_writes : (w : Surroundings) (m : Mode) {out : List ℕ} {written limit n : ℕ} (depth : ℕ) (l : List ℕ) (rs : List Register) {out' : List ℕ}
    → Room out written limit → Put l out written limit n out' → ActedTo (Ok (Wrote n)) w m out written limit depth (writes l) rs out' rs
acted_writes w m {out} {written} {limit} {n} depth l rs {out'} r p = record {
  is = λ left t u e. put_total w m l left (t ∷ u) rs out written limit n out' p;
  sound = (record { long = p.long; low = p.fits; high = r.high }, omega (arith, p.count), p.kept);
}

-- a register that has a value
module _ (w : Surroundings) (m : Mode) (turn : Turn) (name : Name) (left : ℕ) (u : List (List ℕ)) (room : ℕ) (rs : List Register) where
  by_reference : {x : Reference} → x ≡ step_register w.seen turn name rs
      → run_action w m (wants (number turn) name) left u room rs ≡ follow (show_it x (scan_outside u room rs)) (λ s. run w m left (next_byte s.unread s))
  by_reference e = ap (λ x. follow (show_it x (scan_outside u room rs)) (λ s. run w m left (next_byte s.unread s))) (sym e)

module _ {shown : Shown} {q q' : RegisterValues} {turn : Turn} {name : Name} {out : List ℕ} {written limit : ℕ} where
  pub shown_is : (v : ℤ) {n : ℕ} {out' : List ℕ} → ReferTo q q' shown turn name (Ok v) → Room out written limit → Put (decimal v) out written limit n out'
      → ShownTo (Ok (Wrote n)) shown q q' turn name out written limit out'
  shown_is v f r p = record {
    is = λ texts arguments m depth.
        let w : Surroundings = record { seen = seen_of shown; texts = texts; arguments = arguments } in
        let a = acted_writes w m depth (decimal v) (registers_with q') r p in
        record {
          is = λ left t u e. ap (written_before (take written out)) (by_reference w m turn name left (t ∷ u) (limit - written) (registers_with q) f.is) ∙ a.is left t u e;
          sound = a.sound;
        };
    rest = f.rest;
  }

-- a string where there are eight already, and where there are fewer
module _ (w : Surroundings) (m : Mode) (name : Name) (l : List ℕ) (left : ℕ) (u : List (List ℕ)) (room : ℕ) (rs : List Register) where
  shallow : length u ≤ 8 → follow (enter (Some (text name String l)) (scan_outside u room rs)) (λ s. run w m left (next_byte s.unread s)) ≡ written_before [] (from w m left (l ∷ u) room rs)
  shallow h = rw (le-leb (length u) 8 h)

-- by the text that is found
by_text : (w : Surroundings) (m : Mode) (name : Name) (left : ℕ) (u : List (List ℕ)) (room : ℕ) (rs : List Register) {x : Option Text} → x ≡ text_of name w.texts
    → run_action w m (wants a_string name) left u room rs ≡ follow (enter x (scan_outside u room rs)) (λ s. run w m left (next_byte s.unread s))
by_text w m name left u room rs e = ap (λ x. follow (enter x (scan_outside u room rs)) (λ s. run w m left (next_byte s.unread s))) (sym e)

-- a string that is named
module _ {x : TextsRef} {name : Name} {depth written : ℕ} where
  pub entered_none : FoundIn x name None → EnteredTo (Ok (Wrote written)) x name depth written
  unfolding total
  entered_none l = record {
    is = λ seen arguments m out limit rs r.
        let w : Surroundings = record { seen = seen; texts = texts_at x; arguments = arguments } in
        record {
          is = λ left t u e. ap (written_before (take written out)) (by_text w m name left (t ∷ u) (limit - written) rs l.is
              ∙ before_nothing (from w m left (t ∷ u) (limit - written) rs));
          sound = (r, omega arith, refl);
        };
  }

  module _ {spot : Spot} (l : FoundIn x name (Some spot)) where
    pub entered_string : spot.kind ≡ String → depth < 8 → EnteredTo (Ok (Enters name)) x name depth written
    unfolding total
    entered_string k h = record {
      is = λ seen arguments m out limit rs r.
          let w : Surroundings = record { seen = seen; texts = texts_at x; arguments = arguments } in
          record {
            is = λ left t u e. ap (written_before (take written out)) (by_text w m name left (t ∷ u) (limit - written) rs (ap (λ k'. Some (text name k' (part_of x.store.now spot))) (sym k) ∙ l.is)
                ∙ shallow w m name (part_of x.store.now spot) left (t ∷ u) (limit - written) rs (omega arith) ∙ before_nothing (from w m left (part_of x.store.now spot ∷ t ∷ u) (limit - written) rs)
                ∙ ap (λ o. from w m left (bytes_or o ∷ t ∷ u) (limit - written) rs) l.is);
            sound = (refl, omega arith);
          };
    }

-- an argument that is given
pub acted_gives : {w : Surroundings} {m : Mode} {out : List ℕ} {written limit depth : ℕ} {rs : List Register} (k : ℕ) {n : ℕ} {out' : List ℕ}
    → Room out written limit → Put (given_at m depth (get_or w.arguments k [])) out written limit n out' → ActedTo (Ok (Wrote n)) w m out written limit depth (gives k) rs out' rs
acted_gives {w} {m} {out} {written} {limit} {depth} {rs} k r p =
    let a = acted_writes w m depth (given_at m depth (get_or w.arguments k [])) rs r p in
    record {
      is = λ left t u e. ap (λ l. action_behind w m out written limit (writes l) left (t ∷ u) rs) (given_at_lem m t u depth (get_or w.arguments k []) e) ∙ a.is left t u e;
      sound = a.sound;
    }
