-- The rules' literal at a place, by what the readers of digits and scale give. Assumes nothing.
use Rattle.std.specs.Prelude.{Option, Some, None, Result, Ok, Err}
use mathlib.Core.Path.{◌≡◌, refl, sym, ap, ◌∙◌, subst}
use mathlib.Core.Bool.{Bool, true, false, cond, false≢true}
use mathlib.Core.List.{List, [], ◌∷◌}
use Prim.Native.Nat.{ℕ, zero, suc, ◌+◌, ◌-◌, ◌≤◌, ◌<◌, ◌^◌}
use native.Mathlib.Nat.{mul-le-mul}
use native.Mathlib.Omega.{arith}
use lib.Dec.{leb, ltb}
use lib.ListN.{length, get_or, drop, length-drop, drop_of_length-le, get_or-eq_default}
use lib.Seq.{drop-drop, get_or-drop}
use lib.IntN.{ℤ, pos}
use borrow.Author.Tests.{leb-true, leb-false, lt-leb, ltb-true, ltb-false}
use Rattle.measure.specs.declared.Pitch.{Pitch}
use Rattle.measure.specs.declared.Scale.{Scale}
use Rattle.measure.specs.declared.Scale.TheVariants.{Inch, Centimetre, Pica, Em, En, Point, Unit, LineSpace}
use Rattle.measure.specs.Pitches.{Sized}
use Rattle.measure.specs.Scales.{scale_of, literal_of}
use Rattle.measure.specs.ScaleLaws.{at_least}
use Rattle.rules.specs.Bytes.{byte, first_where}
use Rattle.rules.specs.Laws.Tables.{entry_each}
use Rattle.rules.specs.Refusals.{value, bad}
use Rattle.rules.specs.Numbers.{within, is_digit, digits, scaled, scaled_or, scaled_by, literal_at, opens, plus, minus, no_term, start_by, start_of}
use Rattle.rules.proofs.Laws.Numbers.{digits_short, digits_shorter, digits_rest, digits_stop, start_digit, start_other, start_none}
use Rattle.rules.specs.declared.Refusal.{Refusal}
use Rattle.rules.specs.declared.Refusal.TheVariants.{BadNumber}
use Rattle.rules.specs.Results.{refusal_number}
use Rattle.number.specs.Expression.Reading.{digits_of, literal_term}
use Rattle.number.proofs.expression.Places.{unread}

-- what the digits' reader gave: the number, and the bytes after it
pub record Found (s : List ℕ) (at n next : ℕ) : Type 0 where
  pub few : n ≤ 1000000000
  pub is : digits 0 (drop at s) ≡ (n, drop next s)
  pub low : at ≤ next
  pub high : next ≤ length s

-- what a reader of digits answers, by whether they spell a number that is small enough
abbrev spelt : List ℕ → ℕ × List ℕ → Bool → Result (ℕ × ℕ) Refusal
spelt s d t = cond {A = Result (ℕ × ℕ) Refusal} t (Ok (d.0, length s - length d.1)) (Err BadNumber)

-- a literal that a scale behind its digits ends, or the default one
pub record Scaled (s : List ℕ) (at : ℕ) (p : Pitch) (d : Scale) (n : ℕ) (c : Scale) (k : ℕ) : Type 0 where
  pub is : literal_term p d (start_of (drop at s)) ≡ scaled p c n (drop k s)
  pub low : at < k
  pub high : k ≤ length s

pub found : (s : List ℕ) (at n next : ℕ) → at ≤ length s → digits_of s at ≡ Ok (n, next) → Found s at n next
found s at n next h = go (leb (digits 0 (drop at s)).0 1000000000) refl
  where
    go : (t : Bool) → leb (digits 0 (drop at s)).0 1000000000 ≡ t
        → spelt s (digits 0 (drop at s)) t ≡ Ok (n, next) → Found s at n next
    go true f e =
        let o : ◌≡◌ {A = ℕ × ℕ} ((digits 0 (drop at s)).0, length s - length (digits 0 (drop at s)).1) (n, next) = cc in
        let p : (digits 0 (drop at s)).0 ≡ n = ap (λ x. x.0) o in
        let q : length s - length (digits 0 (drop at s)).1 ≡ next = ap (λ x. x.1) o in
        let k = digits_short 0 (drop at s) in
        let j = length-drop at s in
        let w : at + (length (drop at s) - length (digits 0 (drop at s)).1) ≡ next = omega arith in
        let r : (digits 0 (drop at s)).1 ≡ drop next s =
        digits_rest 0 (drop at s) ∙ drop-drop (length (drop at s) - length (digits 0 (drop at s)).1) at s ∙ ap (λ (i : ℕ). drop i s) w in
        record { few = omega (arith, leb-true (digits 0 (drop at s)).0 1000000000 f, p); is = λ i. (p i, r i); low = omega arith; high = omega arith }
    go false f e = let z : ◌≡◌ {A = ℕ} 0 1 = cc in absurd (omega arith)

module _ (p : Pitch) (d : Scale) where
  -- no digit starts no literal
  no_digit : (b : ℕ) (l : List ℕ) → literal_term p d (start_by false b l) ≡ bad 6
  unfolding first_where
  no_digit b l = entry_each (λ x. literal_term p d x ≡ bad 6) ((byte "(", opens l) ∷ (byte "+", plus l) ∷ (byte "-", minus l) ∷ []) no_term b (refl, (refl, (refl, tt))) refl

  not_literal : (s : List ℕ) (at : ℕ) → is_digit (get_or s at 0) ≡ false → literal_term p d (start_of (drop at s)) ≡ bad 6
  not_literal s at e = go (ltb at (length s)) refl
    where
      go : (t : Bool) → ltb at (length s) ≡ t → literal_term p d (start_of (drop at s)) ≡ bad 6
      go true h =
          ap (λ l. literal_term p d (start_of l)) (unread s at (get_or s at 0) (ltb-true at (length s) h) refl)
          ∙ ap (literal_term p d) (start_other (get_or s at 0) (drop (at + 1) s) e) ∙ no_digit (get_or s at 0) (drop (at + 1) s)
      go false h = ap (λ l. literal_term p d (start_of l)) (drop_of_length-le s (ltb-false at (length s) h)) ∙ ap (literal_term p d) start_none

  -- a digit starts one
  is_literal : (s : List ℕ) (at : ℕ) → at < length s → is_digit (get_or s at 0) ≡ true → literal_term p d (start_of (drop at s)) ≡ literal_at p d (drop at s)
  is_literal s at h e =
      let u = unread s at (get_or s at 0) h refl in
      ap (λ l. literal_term p d (start_of l)) u ∙ ap (literal_term p d) (start_digit (get_or s at 0) (drop (at + 1) s) e) ∙ ap (literal_at p d) (sym u)

  -- digits past 1,000,000,000 are past it at any scale
  module _ (z : Sized p) where
    scaled_big : (c : Scale) (n : ℕ) (l : List ℕ) → 1000000000 < n → scaled p c n l ≡ bad 6
    scaled_big c n l h = rw (lt-leb (literal_of p c n) 1000000000 (omega (arith, at_least p z.cell z.row c n)))

    or_big : (m : Option Scale) (n b : ℕ) (l : List ℕ) → 1000000000 < n → scaled_or p m d n b l ≡ bad 6
    or_big (Some c) n b l h = scaled_big c n l h
    or_big None n b l h = scaled_big d n (b ∷ l) h

    by_big : (n : ℕ) (l : List ℕ) → 1000000000 < n → scaled_by p d n l ≡ bad 6
    by_big n [] h = scaled_big d n [] h
    by_big n (b ∷ l) h = or_big (scale_of b) n b l h

-- a digit stands within the text
inside : (s : List ℕ) (at : ℕ) → is_digit (get_or s at 0) ≡ true → at < length s
inside s at e = go (ltb at (length s)) refl
  where
    go : (t : Bool) → ltb at (length s) ≡ t → at < length s
    go true h = ltb-true at (length s) h
    go false h =
        let f : get_or s at 0 ≡ 0 = get_or-eq_default s 0 (ltb-false at (length s) h) in
        let g : is_digit 0 ≡ true = subst (λ b. is_digit b ≡ true) f e in absurd (false≢true g)

-- whether digits were read
read_some : (s : List ℕ) (at n next : ℕ) → Found s at n next → is_digit (get_or s at 0) ≡ true → at < next
read_some s at n next f e =
    let h = inside s at e in
    let u = unread s at (get_or s at 0) h refl in
    let k = digits_shorter 0 (get_or s at 0) (drop (at + 1) s) e in
    let q : (digits 0 (get_or s at 0 ∷ drop (at + 1) s)).1 ≡ drop next s = ap (λ l. (digits 0 l).1) (sym u) ∙ ap (λ x. x.1) f.is in
    omega (arith, ap length q, length-drop next s, length-drop (at + 1) s, f.high)

read_none : (s : List ℕ) (at n next : ℕ) → Found s at n next → is_digit (get_or s at 0) ≡ false → next ≡ at
read_none s at n next f e = go (ltb at (length s)) refl
  where
    go : (t : Bool) → ltb at (length s) ≡ t → next ≡ at
    go true h =
        let u = unread s at (get_or s at 0) (ltb-true at (length s) h) refl in
        let q : drop next s ≡ get_or s at 0 ∷ drop (at + 1) s =
        sym (ap (λ x. x.1) f.is) ∙ ap (λ l. (digits 0 l).1) u ∙ ap (λ x. x.1) (digits_stop 0 (get_or s at 0) (drop (at + 1) s) e) in
        omega (arith, ap length q, length-drop next s, length-drop (at + 1) s, f.high, f.low, ltb-true at (length s) h)
    go false h = omega (arith, f.high, f.low, ltb-false at (length s) h)

module _ (s : List ℕ) (at : ℕ) (p : Pitch) (d : Scale) where
  -- the answers of the reader of literals
  pub is_huge : Sized p → {r : Refusal} → digits_of s at ≡ Err r → bad (refusal_number r) ≡ literal_term p d (start_of (drop at s))
  unfolding digits
  is_huge z {r} = go (is_digit (get_or s at 0)) refl
    where
      many : (t : Bool) → leb (digits 0 (drop at s)).0 1000000000 ≡ t → spelt s (digits 0 (drop at s)) t ≡ Err r
          → (1000000000 < (digits 0 (drop at s)).0) × (BadNumber ≡ r)
      many true f e = let z : ◌≡◌ {A = ℕ} 0 1 = cc in absurd (omega arith)
      many false f e = (leb-false (digits 0 (drop at s)).0 1000000000 f, cc)

      go : (t : Bool) → is_digit (get_or s at 0) ≡ t → digits_of s at ≡ Err r → bad (refusal_number r) ≡ literal_term p d (start_of (drop at s))
      go true e h =
          let m = many (leb (digits 0 (drop at s)).0 1000000000) refl h in
          rw (← m.1) (sym (is_literal p d s at (inside s at e) e ∙ by_big p d z (digits 0 (drop at s)).0 (digits 0 (drop at s)).1 m.0))
      go false e h =
          let m = many (leb (digits 0 (drop at s)).0 1000000000) refl h in
          rw (← m.1) (sym (not_literal p d s at e))

  module _ (n next : ℕ) (f : Found s at n next) where
    pub is_empty : next ≡ at → bad 6 ≡ literal_term p d (start_of (drop at s))
    is_empty h = go (is_digit (get_or s at 0)) refl
      where
        go : (t : Bool) → is_digit (get_or s at 0) ≡ t → bad 6 ≡ literal_term p d (start_of (drop at s))
        go true e = absurd (omega (arith, read_some s at n next f e))
        go false e = sym (not_literal p d s at e)

    module _ (h : next ≡ at → ⊥) where
      digit_there : (t : Bool) → is_digit (get_or s at 0) ≡ t → is_digit (get_or s at 0) ≡ true
      digit_there true e = e
      digit_there false e = absurd (h (read_none s at n next f e))

      pub further : at < next
      further = read_some s at n next f (digit_there (is_digit (get_or s at 0)) refl)

      to_scale : literal_term p d (start_of (drop at s)) ≡ scaled_by p d n (drop next s)
      unfolding digits
      to_scale =
          let e = digit_there (is_digit (get_or s at 0)) refl in
          is_literal p d s at (inside s at e) e ∙ ap (λ x. scaled_by p d x.0 x.1) f.is

      pub own_scale : (c : Scale) → scale_of (get_or s next 0) ≡ Some c → next < length s → Scaled s at p d n c (next + 1)
      own_scale c e k =
          let u = unread s next (get_or s next 0) k refl in
          record {
            is = to_scale ∙ ap (scaled_by p d n) u ∙ ap (λ m. scaled_or p m d n (get_or s next 0) (drop (next + 1) s)) e;
            low = omega (arith, further);
            high = omega arith;
          }

      default_by : (l : List ℕ) → scale_of (get_or l 0 0) ≡ None → scaled_by p d n l ≡ scaled p d n l
      default_by [] e = refl
      default_by (b ∷ l) e = ap (λ m. scaled_or p m d n b l) e

      pub default_scale : scale_of (get_or s next 0) ≡ None → Scaled s at p d n d next
      default_scale e =
          let z : next + 0 ≡ next = omega arith in
          let g : get_or (drop next s) 0 0 ≡ get_or s next 0 = get_or-drop next s 0 0 ∙ ap (λ (i : ℕ). get_or s i 0) z in
          record { is = to_scale ∙ default_by (drop next s) (ap scale_of g ∙ e); low = further; high = f.high }

-- a scale's letter is no byte 0
pub letter : (b : ℕ) (c : Scale) → scale_of b ≡ Some c → 0 < b
unfolding scale_of
letter zero c e = let z : ◌≡◌ {A = ℕ} 0 1 = cc in absurd (omega arith)
letter (suc b) c e = omega arith

module _ {s : List ℕ} {at : ℕ} {p : Pitch} {d : Scale} {n : ℕ} {c : Scale} {k : ℕ} (g : Scaled s at p d n c k) where
  -- a literal's value by its units, judged
  pub given_value : {v : ℤ} → value v ≡ within (pos (literal_of p c n)) → value (v, drop k s) ≡ literal_term p d (start_of (drop at s))
  given_value e = rw (g.is, ← e)

  pub refused_value : {m : ℕ} → bad m ≡ within (pos (literal_of p c n)) → bad m ≡ literal_term p d (start_of (drop at s))
  refused_value e = rw (g.is, ← e)

-- a literal of so few digits fits 64 bits
pub literal_small : (p : Pitch) (c : Scale) (n : ℕ) → p.cell < 256 → p.row < 256 → n ≤ 1000000000 → literal_of p c n < 2 ^ 63
literal_small p Inch n h k m = omega arith
literal_small p Centimetre n h k m = omega arith
literal_small p Pica n h k m = omega arith
literal_small p Em n h k m = let q : p.cell ≤ 255 = omega arith in omega (arith, mul-le-mul m q)
literal_small p En n h k m = let q : p.cell ≤ 255 = omega arith in omega (arith, mul-le-mul m q)
literal_small p Point n h k m = omega arith
literal_small p Unit n h k m = omega arith
literal_small p LineSpace n h k m = let q : p.row ≤ 255 = omega arith in omega (arith, mul-le-mul m q)
