-- The bytes of a line are taken as the rules say. Assumes nothing.
use Rattle.std.specs.Prelude.{◌≡◌, Bool, true, false, ◌&&◌, ℕ, suc, ◌+◌, ◌-◌, ◌<◌, ◌≤◌, eqb, take, None}
use Rattle.std.proofs.Math.Path.{refl}
use Rattle.std.proofs.Common.{sym, ap, ◌∙◌, subst, arith, eqb-true, leb-true, leb-false}
use mathlib.Core.List.{List, [], ◌∷◌, ◌++◌, append_assoc, append-nil}
use Rattle.std.proofs.Math.Dec.{leb}
use Rattle.std.proofs.Math.ListN.{length, length-append}
use Rattle.std.proofs.Math.Seq.{take-nil}
use Rattle.std.proofs.lemmas.Bool.{eqb-false}
use Rattle.rules.specs.State.{State, fresh, refuse}
use Rattle.rules.specs.Session.{take_byte, with_begun, gather}
use Rattle.rules.specs.Laws.Session.{begun_later, take_past, take_newline, take_long, take_bad, take_keeps}
use Rattle.rules.specs.declared.Refusal.{Refusal}
use Rattle.rules.specs.declared.Refusal.TheVariants.{BadByte, LongLine, LongDocument}
use Rattle.source_line.specs.declared.Why.TheVariants.{More, Ended, Refused}
use Rattle.source_line.specs.Gathering.{with_source, Asks, Takes, begun_line, begun_stored, Reached, reached, line_step, line_from, gathered_to, is_plain, are_plain, is_inside}

-- a line begins with its first byte
pub begun_source_lem : (g : List ℕ) (l r : ℕ) (x : State)
    → with_begun (with_source g l r [] x) ≡ with_source g (begun_line (length g) l) (begun_stored (length g) r) [] x
begun_source_lem [] l r x = refl
begun_source_lem (b ∷ g) l r x = refl

-- how far a line reaches
pub record Far (i n : ℕ) (r : Reached) : Type 0 where
  pub behind : i ≤ r.to
  pub within : r.to ≤ i + n
  pub all : r.why ≡ More → r.to ≡ i + n

ended_more : Ended ≡ More → ⊥
ended_more e = let z : ◌≡◌ {A = ℕ} 0 1 = cc (e) in omega arith

refused_more : (k : Refusal) → Refused k ≡ More → ⊥
refused_more k e = let z : ◌≡◌ {A = ℕ} 0 1 = cc (e) in omega arith

far_by : (a l o : Bool) (i n : ℕ) (g : List ℕ) (on : Reached) → Far (i + 1) n on → Far i (suc n) (line_step a l o (i + 1) g on)
far_by true l o i n g on f = record { behind = omega arith; within = omega arith; all = λ e. absurd (ended_more e) }
far_by false true o i n g on f = record { behind = omega arith; within = omega arith; all = λ e. absurd (refused_more LongLine e) }
far_by false false false i n g on f = record { behind = omega arith; within = omega arith; all = λ e. absurd (refused_more BadByte e) }
far_by false false true i n g on f =
    record { behind = omega (arith, f.behind); within = omega (arith, f.within); all = λ e. omega (arith, f.all e) }

pub line_far : (i : ℕ) (bs g : List ℕ) → Far i (length bs) (line_from i bs g)
unfolding line_from
line_far i [] g = record { behind = omega arith; within = omega arith; all = λ e. omega arith }
line_far i (b ∷ bs) g =
    far_by (eqb b 10) (leb 512 (length g)) (leb 32 b && leb b 126) i (length bs) g (line_from (i + 1) bs (g ++ b ∷ [])) (line_far (i + 1) bs (g ++ b ∷ []))

some_by : (a l o : Bool) (i : ℕ) (g : List ℕ) (on : Reached) → i < on.to → i < (line_step a l o (i + 1) g on).to
some_by true l o i g on h = omega arith
some_by false true o i g on h = omega arith
some_by false false false i g on h = omega arith
some_by false false true i g on h = h

-- a byte is taken
pub line_some : (i : ℕ) (bs g : List ℕ) → 0 < length bs → i < (line_from i bs g).to
unfolding line_from
line_some i [] g h = absurd (omega arith)
line_some i (b ∷ bs) g h =
    some_by (eqb b 10) (leb 512 (length g)) (leb 32 b && leb b 126) i g (line_from (i + 1) bs (g ++ b ∷ [])) (omega (arith, (line_far (i + 1) bs (g ++ b ∷ [])).behind))

both_true : (a b : Bool) → (a && b) ≡ true → (a ≡ true) × (b ≡ true)
both_true true true e = (refl, refl)
both_true true false e = let z : ◌≡◌ {A = ℕ} 0 1 = cc (e) in absurd (omega arith)
both_true false b e = let z : ◌≡◌ {A = ℕ} 0 1 = cc (e) in absurd (omega arith)

good_byte : (b : ℕ) → (leb 32 b && leb b 126) ≡ true → (32 ≤ b) × (b ≤ 126)
good_byte b e = let w = both_true (leb 32 b) (leb b 126) e in (leb-true 32 b w.0, leb-true b 126 w.1)

-- bytes that may stand in a line
plain_first : (b : ℕ) (bs : List ℕ) → are_plain (b ∷ bs) ≡ true → (32 ≤ b) × (b ≤ 126) × (are_plain bs ≡ true)
unfolding are_plain
plain_first b bs e =
    let w = both_true (is_plain b) (are_plain bs) e in
    let v = good_byte b w.0 in
    (v.0, v.1, w.1)

-- what the test of a block says
pub record BlockInside (bs : List ℕ) (n : ℕ) : Type 0 where
  pub some : 0 < n
  pub fits : n + length bs ≤ 512
  pub plain : are_plain bs ≡ true

pub inside_is : (bs : List ℕ) (n : ℕ) → is_inside bs n ≡ true → BlockInside bs n
inside_is bs n e =
    let w = both_true (leb 1 n) (leb (n + length bs) 512 && are_plain bs) e in
    let v = both_true (leb (n + length bs) 512) (are_plain bs) w.1 in
    record { some = omega (arith, leb-true 1 n w.0); fits = leb-true (n + length bs) 512 v.0; plain = v.1 }

module _ (x : State) (unclosed : x.closing ≡ None) where
  -- the state that a line leads to
  abbrev pub towards : Reached → (line stored : ℕ) → State
  towards o l r = gathered_to o.why o.gathered l r x

  -- every source asks for bytes
  pub source_asks : (g : List ℕ) (l r : ℕ) → Asks (with_source g l r [] x)
  source_asks g l r = record { closing = unclosed; ended = refl; stack = refl }

  module _ (b : ℕ) (bs g : List ℕ) (i l₀ r₀ l r : ℕ) (begun : with_begun (with_source g l₀ r₀ [] x) ≡ with_source g l r [] x) (numbered : l ≤ 1000000) where
    abbrev s : State
    s = with_source g l₀ r₀ [] x

    one : (t : State) → t ≡ take_byte b s → Takes s (take (i + 1 - i) (b ∷ bs)) t
    one t e = let n : i + 1 - i ≡ 1 = omega arith in rw n (source_asks g l₀ r₀, e)

    allowed : (with_begun s).input.line ≤ 1000000
    allowed = let e : (with_begun s).input.line ≡ l = ap (λ v. v.input.line) begun in omega arith

    -- one byte, and then the others
    byte_takes : (a z o : Bool) → eqb b 10 ≡ a → leb 512 (length g) ≡ z → (leb 32 b && leb b 126) ≡ o → (on : Reached) → i + 1 ≤ on.to
        → Takes (with_source (g ++ b ∷ []) l r [] x) (take (on.to - (i + 1)) bs) (towards on l r)
        → Takes s (take ((line_step a z o (i + 1) g on).to - i) (b ∷ bs)) (towards (line_step a z o (i + 1) g on) l r)
    byte_takes true z o p q t on h k =
        one (towards (reached (i + 1) g Ended) l r)
        (ap (gather [] (fresh g ∷ [])) (sym begun) ∙ sym (take_newline s allowed) ∙ ap (λ v. take_byte v s) (sym (eqb-true b 10 p)))
    byte_takes false true o p q t on h k =
        one (towards (reached (i + 1) g (Refused LongLine)) l r)
        (ap (refuse 3) (sym begun) ∙ sym (take_long b s allowed (eqb-false b 10 p) (leb-true 512 (length g) q)))
    byte_takes false false false p q t on h k =
        one (towards (reached (i + 1) g (Refused BadByte)) l r)
        (ap (refuse 2) (sym begun) ∙ sym (take_bad b s allowed (eqb-false b 10 p) (leb-false 512 (length g) q) t))
    byte_takes false false true p q t on h k =
        let n : on.to - i ≡ suc (on.to - (i + 1)) = omega arith in
        let w = good_byte b t in
        let e : take_byte b s ≡ with_source (g ++ b ∷ []) l r [] x =
        take_keeps b s allowed (leb-false 512 (length g) q) w.0 w.1 ∙ ap (gather (g ++ b ∷ []) []) begun in
        rw n (source_asks g l₀ r₀, subst (λ v. Takes v (take (on.to - (i + 1)) bs) (towards on l r)) (sym e) k)

  -- a line that has bytes goes on
  later_takes : (i : ℕ) (bs g : List ℕ) (l r : ℕ) → 0 < length g → l ≤ 1000000
      → Takes (with_source g l r [] x) (take ((line_from i bs g).to - i) bs) (towards (line_from i bs g) l r)
  unfolding line_from
  later_takes i [] g l r h n = rw (take-nil {A = ℕ} (i - i)) refl
  later_takes i (b ∷ bs) g l r h n =
      let on = line_from (i + 1) bs (g ++ b ∷ []) in
      byte_takes b bs g i l r l r (begun_source_lem g l r x ∙ later_numbers g l r h) n (eqb b 10) (leb 512 (length g)) (leb 32 b && leb b 126) refl refl refl on
      (line_far (i + 1) bs (g ++ b ∷ [])).behind (later_takes (i + 1) bs (g ++ b ∷ []) l r (omega (arith, length-append g (b ∷ []))) n)
    where
      later_numbers : (g : List ℕ) (l r : ℕ) → 0 < length g → with_source g (begun_line (length g) l) (begun_stored (length g) r) [] x ≡ with_source g l r [] x
      later_numbers [] l r h = absurd (omega arith)
      later_numbers (b ∷ g) l r h = refl

  -- A line is gathered, from its first byte or a later one on.
  pub line_takes : (i : ℕ) (bs g : List ℕ) (l r : ℕ) → 0 < length bs → begun_line (length g) l ≤ 1000000
      → Takes (with_source g l r [] x) (take ((line_from i bs g).to - i) bs) (towards (line_from i bs g) (begun_line (length g) l) (begun_stored (length g) r))
  unfolding line_from
  line_takes i [] g l r h n = absurd (omega arith)
  line_takes i (b ∷ bs) g l r h n =
      let on = line_from (i + 1) bs (g ++ b ∷ []) in
      let l' = begun_line (length g) l in
      let r' = begun_stored (length g) r in
      byte_takes b bs g i l r l' r' (begun_source_lem g l r x) n (eqb b 10) (leb 512 (length g)) (leb 32 b && leb b 126) refl refl refl on
      (line_far (i + 1) bs (g ++ b ∷ [])).behind (later_takes (i + 1) bs (g ++ b ∷ []) l' r' (omega (arith, length-append g (b ∷ []))) n)

  -- Bytes that may stand in a line go behind those that it has.
  pub inside_takes : (bs g : List ℕ) (l r : ℕ) → BlockInside bs (length g) → l ≤ 1000000 → Takes (with_source g l r [] x) bs (with_source (g ++ bs) l r [] x)
  inside_takes [] g l r i n = ap (λ v. with_source v l r [] x) (append-nil g)
  inside_takes (b ∷ bs) g l r i n =
      let w = plain_first b bs i.plain in
      let s = with_source g l r [] x in
      let k = length-append g (b ∷ []) in
      let begun : with_begun s ≡ s = begun_later s i.some in
      let low : (with_begun s).input.line ≤ 1000000 = subst (λ v. v.input.line ≤ 1000000) (sym begun) n in
      let e : take_byte b s ≡ with_source (g ++ b ∷ []) l r [] x = take_keeps b s low (omega (arith, i.fits)) w.0 w.1 ∙ ap (gather (g ++ b ∷ []) []) begun in (
        source_asks g l r,
        subst (λ v. Takes v bs (with_source (g ++ b ∷ bs) l r [] x)) (sym e)
            (subst (λ v. Takes (with_source (g ++ b ∷ []) l r [] x) bs (with_source v l r [] x)) (append_assoc g (b ∷ []) bs)
            (inside_takes bs (g ++ b ∷ []) l r (record { some = omega (arith, k); fits = omega (arith, k, i.fits); plain = w.2 }) n)),
      )

  -- "12: past 1,000,000 source lines"
  pub past_takes : (b : ℕ) (g : List ℕ) (l r : ℕ) → 1000000 < begun_line (length g) l
      → Takes (with_source g l r [] x) (b ∷ []) (gathered_to (Refused LongDocument) g (begun_line (length g) l) (begun_stored (length g) r) x)
  past_takes b g l r h =
      let e = begun_source_lem g l r x in
      let k : (with_begun (with_source g l r [] x)).input.line ≡ begun_line (length g) l = ap (λ v. v.input.line) e in
      (source_asks g l r, ap (refuse 12) (sym e) ∙ sym (take_past b (with_source g l r [] x) (omega arith)))
