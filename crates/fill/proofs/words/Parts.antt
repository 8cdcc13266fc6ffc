-- Laws of parts of a line, as the code goes over them. Assumes nothing.
use mathlib.Core.Path.{◌≡◌, sym, ap, subst, ◌∙◌}
use mathlib.Core.Bool.{Bool, true, false}
use mathlib.Core.List.{List, [], ◌∷◌, ◌++◌, reverse}
use Prim.Native.Nat.{ℕ, zero, suc, ◌+◌, ◌-◌, ◌≤◌, ◌<◌}
use native.Mathlib.Nat.{sub-zero, suc-sub-suc}
use native.Mathlib.Numerals.{add-one}
use native.Mathlib.Omega.{arith}
use lib.ListN.{length, get_or, take, drop, length-drop}
use lib.Seq.{take-suc, drop-cons, get_or-drop, take-take, drop-drop, take-nil, length-take-le}
use Rattle.std.specs.List.{suffix_len}
use Rattle.std.proofs.lemmas.List.{get_or-take, get_or-reverse, length-reverse}
use Rattle.std.proofs.lemmas.List.Sums.{suffix_len-le-length, prefix_len_passes, prefix_len_stops}
use Rattle.fill.specs.Words.Parts.{bytes_between}

-- no bytes
pub part_none : (l : List ℕ) (at to : ℕ) → to ≤ at → bytes_between l at to ≡ []
unfolding bytes_between
part_none l at to h = let z : to - at ≡ 0 = omega arith in rw z

-- the first byte, and the others
pub part_cons : (l : List ℕ) (at to : ℕ) → at < to → to ≤ length l → bytes_between l at to ≡ get_or l at 0 ∷ bytes_between l (at + 1) to
unfolding bytes_between
part_cons l at to h k =
    let z : to - at ≡ suc (to - (at + 1)) = omega arith in
    let m : at < length l = omega arith in
    rw (z, drop-cons l at 0 m, add-one at)

pub part_length : (l : List ℕ) (at to : ℕ) → to ≤ length l → length (bytes_between l at to) ≡ to - at
unfolding bytes_between
part_length l at to h = length-take-le (to - at) (drop at l) (omega (arith, length-drop at l))

drop_take : (k n : ℕ) (m : List ℕ) → drop k (take n m) ≡ take (n - k) (drop k m)
drop_take zero n m = rw sub-zero
drop_take (suc k) zero m = let z : 0 - suc k ≡ 0 = omega arith in rw z
drop_take (suc k) (suc n) [] = sym (take-nil (suc n - suc k))
drop_take (suc k) (suc n) (b ∷ m) = rw (suc-sub-suc n k) (drop_take k n m)

-- without its first k bytes
pub part_drop : (l : List ℕ) (at to k : ℕ) → drop k (bytes_between l at to) ≡ bytes_between l (at + k) to
unfolding bytes_between
part_drop l at to k =
    let z : to - at - k ≡ to - (at + k) = omega arith in
    drop_take k (to - at) (drop at l) ∙ rw (z, drop-drop k at l)

-- its first k bytes
pub part_take : (l : List ℕ) (at to k : ℕ) → at + k ≤ to → take k (bytes_between l at to) ≡ bytes_between l at (at + k)
unfolding bytes_between
part_take l at to k h =
    let z : at + k - at ≡ k = omega arith in
    rw z (take-take k (to - at) (drop at l) (omega arith))

-- all but the last byte, and that
pub part_snoc : (l : List ℕ) (at to : ℕ) → at < to → to ≤ length l → bytes_between l at to ≡ bytes_between l at (to - 1) ++ get_or l (to - 1) 0 ∷ []
unfolding bytes_between
part_snoc l at to h k =
    let z : to - at ≡ suc (to - 1 - at) = omega arith in
    let m : at + (to - 1 - at) ≡ to - 1 = omega arith in
    let n : to - 1 - at < length (drop at l) = omega (arith, length-drop at l) in
    rw (z, take-suc (drop at l) (to - 1 - at) 0 n, get_or-drop at l (to - 1 - at) 0, m)

-- from the start
pub part_zero : (l : List ℕ) (to : ℕ) → bytes_between l 0 to ≡ take to l
unfolding bytes_between
part_zero l to = rw sub-zero

pub part_at : (l : List ℕ) (at to i : ℕ) → i < to - at → get_or (bytes_between l at to) i 0 ≡ get_or l (at + i) 0
unfolding bytes_between
part_at l at to i h = get_or-take (to - at) (drop at l) i 0 h ∙ get_or-drop at l i 0

-- a part behind the last byte that fails a test
module _ (p : ℕ → Bool) (l : List ℕ) (at to : ℕ) (k : to ≤ length l) where
  pub passing_few : suffix_len p (bytes_between l at to) ≤ to - at
  passing_few = omega (arith, suffix_len-le-length p (bytes_between l at to), part_length l at to k)

  from_end : (i : ℕ) → i < to - at → get_or (reverse (bytes_between l at to)) i 0 ≡ get_or l (to - 1 - i) 0
  from_end i h =
      let n = part_length l at to k in
      let z : length (bytes_between l at to) - 1 - i ≡ to - at - 1 - i = omega arith in
      let y : at + (to - at - 1 - i) ≡ to - 1 - i = omega arith in
      get_or-reverse (bytes_between l at to) i 0 (omega (arith, n)) ∙ rw z (part_at l at to (to - at - 1 - i) (omega arith) ∙ ap (λ (j : ℕ). get_or l j 0) y)

  -- what passes, from the end on; and what fails
  passing_at : (i : ℕ) → to - suffix_len p (bytes_between l at to) < i → i ≤ to → p (get_or l (i - 1) 0) ≡ true
  passing_at i h j =
      let z : to - 1 - (to - i) ≡ i - 1 = omega arith in
      ap p (ap (λ (m : ℕ). get_or l m 0) (sym z) ∙ sym (from_end (to - i) (omega (arith, passing_few)))) ∙ prefix_len_passes p (reverse (bytes_between l at to)) (to - i) 0 (omega arith)

  pub failing_last : at < to - suffix_len p (bytes_between l at to) → p (get_or l (to - suffix_len p (bytes_between l at to) - 1) 0) ≡ false
  failing_last h =
      let n = suffix_len p (bytes_between l at to) in
      let z : to - 1 - n ≡ to - n - 1 = omega arith in
      ap p (ap (λ (m : ℕ). get_or l m 0) (sym z) ∙ sym (from_end n (omega arith))) ∙ prefix_len_stops p (reverse (bytes_between l at to)) 0 (omega (arith, length-reverse (bytes_between l at to), part_length l at to k))

  -- a fact that holds of the part, and still holds without a last byte that passes, holds without all of them
  pub without_passing : (Q : ℕ → Type 0) → Q to → ((i : ℕ) → at < i → i ≤ to → p (get_or l (i - 1) 0) ≡ true → Q i → Q (i - 1)) → Q (to - suffix_len p (bytes_between l at to))
  without_passing Q q step = go (suffix_len p (bytes_between l at to)) (omega arith)
    where
      go : (n : ℕ) → n ≤ suffix_len p (bytes_between l at to) → Q (to - n)
      go zero h = rw sub-zero q
      go (suc n) h =
          let z : to - n - 1 ≡ to - suc n = omega arith in
          let few = passing_few in
          subst Q z (step (to - n) (omega (arith, few)) (omega arith) (passing_at (to - n) (omega (arith, few)) (omega arith)) (go n (omega arith)))
