-- The digits of a number, the last one first. Assumes nothing.
use mathlib.Core.Path.{◌≡◌, refl, sym, ap, ◌∙◌}
use mathlib.Core.Bool.{true, false}
use mathlib.Core.List.{List, [], ◌∷◌}
use Prim.Native.Nat.{ℕ, zero, suc, ◌+◌, ◌-◌, ◌/◌, ◌%◌, ◌^◌, ◌≤◌, ◌<◌}
use native.Mathlib.Omega.{arith}
use lib.IntN.{ℤ, pos, negsuc, nat_abs}
use lib.Signed.{lt_z}
use lib.ListN.{length, take, drop, set, length-set, length-drop, drop_of_length-le}
use lib.Seq.{take_all, set_split, drop_at, length-take-le}
use borrow.Author.Tests.{lt-ltb, le-ltb}
use Rattle.rules.specs.Registers.{decimal_by, decimal}
use Rattle.scan.specs.Output.Digits.{DigitsAt}

-- a stored byte, before those behind it
pub stored : (l : List ℕ) (at b : ℕ) → 1 ≤ at → at ≤ length l → drop (at - 1) (set l (at - 1) b) ≡ b ∷ drop at l
stored l at b h k =
    let z : suc (at - 1) ≡ at = omega arith in
    let i : at - 1 < length l = omega arith in
    let j : at - 1 ≤ length l = omega arith in
    ap (drop (at - 1)) (set_split l (at - 1) b i) ∙ drop_at (take (at - 1) l) (b ∷ drop (suc (at - 1)) l) (at - 1) (length-take-le (at - 1) l j) ∙ ap (λ (n : ℕ). b ∷ drop n l) z

-- n is still to be written before the digits from `at` on
pub record Digits (value n at : ℕ) (digits : List ℕ) : Type 0 where
  pub fuel : ℕ
  pub more : n < fuel
  pub are : decimal_by (suc value) value [] ≡ decimal_by fuel n (drop at digits)
  pub places : ℕ
  pub after : at ≡ suc places
  pub small : n < 10 ^ places
  pub low : 1 ≤ places
  pub high : at ≤ 11
  pub long : length digits ≡ 11

pub start : (value : ℕ) (digits : List ℕ) → value < 2 ^ 32 → length digits ≡ 11 → Digits value value 11 digits
start value digits h k = record {
  fuel = suc value;
  more = omega arith;
  are = ap (decimal_by (suc value) value) (sym (let h : length digits ≤ 11 = omega arith in drop_of_length-le digits h));
  places = 10;
  after = refl;
  small = omega arith;
  low = omega arith;
  high = omega arith;
  long = k;
}

-- a number of two digits or more has two places
fewer : (n k : ℕ) → n < 10 ^ k → 10 ≤ n → (j : ℕ) × (k ≡ suc j) × (1 ≤ j) × (n / 10 < 10 ^ j)
fewer n zero h k = absurd (omega arith)
fewer n (suc zero) h k = absurd (omega arith)
fewer n (suc (suc j)) h k = (suc j, refl, omega arith, omega arith)

one_digit : (fuel n : ℕ) (l : List ℕ) → n < fuel → n < 10 → decimal_by fuel n l ≡ (48 + n) ∷ l
unfolding decimal_by
one_digit zero n l h k = absurd (omega arith)
one_digit (suc fuel) n l h k = rw (decimal_by, lt-ltb n 10 k)

more_digits : (fuel n : ℕ) (l : List ℕ) → n < fuel → 10 ≤ n → decimal_by fuel n l ≡ decimal_by (fuel - 1) (n / 10) ((48 + n % 10) ∷ l)
unfolding decimal_by
more_digits zero n l h k = absurd (omega arith)
more_digits (suc fuel) n l h k = let z : suc fuel - 1 ≡ fuel = omega arith in rw (decimal_by, le-ltb n 10 k, z)

module _ {value n at : ℕ} {digits : List ℕ} (d : Digits value n at digits) where
  pub again : 10 ≤ n → Digits value (n / 10) (at - 1) (set digits (at - 1) (48 + n % 10))
  again h =
      let f = fewer n d.places d.small h in
      let y = d.after in
      let x = f.1 in
      let z = d.long in
      record {
        fuel = d.fuel - 1;
        more = omega (arith, d.more);
        are = d.are ∙ more_digits d.fuel n (drop at digits) d.more h
            ∙ ap (decimal_by (d.fuel - 1) (n / 10)) (sym (stored digits at (48 + n % 10) (omega (arith, d.low)) (omega (arith, d.high))));
        places = f.0;
        after = omega arith;
        small = f.3;
        low = f.2;
        high = omega (arith, d.high);
        long = length-set digits (at - 1) (48 + n % 10) ∙ z;
      }

  pub last : n < 10 → DigitsAt value (at - 1) (set digits (at - 1) (48 + n))
  last h =
      let z = d.long in
      let y = d.after in
      record {
        are = stored digits at (48 + n) (omega (arith, d.low)) (omega (arith, d.high)) ∙ sym (d.are ∙ one_digit d.fuel n (drop at digits) d.more h);
        low = omega (arith, d.low);
        high = omega (arith, d.high);
        long = length-set digits (at - 1) (48 + n) ∙ z;
      }

-- the bytes of a number, by its sign
pub below : (z : ℤ) → lt_z z (pos 0) ≡ true → decimal z ≡ 45 ∷ decimal_by (suc (nat_abs z)) (nat_abs z) []
unfolding decimal
below (pos n) t = absurd (let e : ◌≡◌ {A = ℕ} 0 1 = cc (le-ltb n 0 (omega arith)) in omega arith)
below (negsuc n) t = refl

pub above : (z : ℤ) → lt_z z (pos 0) ≡ false → decimal z ≡ decimal_by (suc (nat_abs z)) (nat_abs z) []
unfolding decimal
above (pos n) t = refl
above (negsuc n) t = absurd (let e : ◌≡◌ {A = ℕ} 0 1 = cc in omega arith)

module _ (z : ℤ) (v at : ℕ) (digits : List ℕ) (e : v ≡ nat_abs z) (d : DigitsAt v at digits) where
  are : decimal_by (suc v) v [] ≡ decimal_by (suc (nat_abs z)) (nat_abs z) []
  are = ap (λ (n : ℕ). decimal_by (suc n) n []) e

  pub plain_bytes : lt_z z (pos 0) ≡ false → take (11 - at) (drop at digits) ≡ decimal z
  plain_bytes t =
      let k = d.long in
      take_all (11 - at) (drop at digits) (omega (arith, length-drop at digits)) ∙ d.are ∙ are ∙ sym (above z t)

  pub signed_bytes : lt_z z (pos 0) ≡ true → take (11 - (at - 1)) (drop (at - 1) (set digits (at - 1) 45)) ≡ decimal z
  signed_bytes t =
      let k = d.long in
      take_all (11 - (at - 1)) (drop (at - 1) (set digits (at - 1) 45)) (omega (arith, length-drop (at - 1) (set digits (at - 1) 45), length-set digits (at - 1) 45))
      ∙ stored digits at 45 d.low (omega (arith, d.high)) ∙ ap (λ l. 45 ∷ l) (d.are ∙ are) ∙ sym (below z t)
