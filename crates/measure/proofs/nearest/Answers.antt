-- `measure::nearest` meets its contract: the units are taken by their sign. Assumes nothing.
use Prim.Native.Nat.{ℕ, suc, zero, ◌<◌, ◌≤◌, ◌^◌, zero-le}
use mathlib.Core.Path.{◌≡◌, refl, ap, ◌∙◌}
use mathlib.Core.Bool.{true, false}
use native.Mathlib.Omega.{arith}
use lib.IntN.{ℤ, pos, negsuc, neg_ℤ, nat_abs, ◌-ℤ◌, +ℤ_idl}
use lib.Signed.{lt_z}
use borrow.Author.Tests.{le-ltb}
use mir.Syntax.{w32, w64}
use mir.Val.{SFits, to_z, of_z}
use mir.Facts.{to_z-of_z, to_z_pos, sfits_widen}
use Rattle.measure.specs.Rounding.{half_up, nearest_of}
use Rattle.measure.specs.RoundingLaws.{half_up_fewer}
use Rattle.measure.proofs.nearest.Goals.{After-from-count}
use Rattle.measure.proofs.nearest.Goals as goal

-- units below zero, and the others
record Below (z : ℤ) : Type 0 where
  small : nat_abs z ≤ 2 ^ 31
  rounded : (size : ℕ) → nearest_of size z ≡ neg_ℤ (pos (half_up size (nat_abs z)))

below : (z : ℤ) → SFits w32 z → lt_z z (pos 0) ≡ true → Below z
below (pos n) f t = absurd (let e : ◌≡◌ {A = ℕ} 0 1 = cc (le-ltb n 0 zero-le) in omega arith)
below (negsuc n) f t = record { small = f.sfits; rounded = λ size. refl }

record Above (z : ℤ) : Type 0 where
  small : nat_abs z < 2 ^ 31
  rounded : (size : ℕ) → nearest_of size z ≡ pos (half_up size (nat_abs z))

above : (z : ℤ) → SFits w32 z → lt_z z (pos 0) ≡ false → Above z
above (pos n) f t = record { small = f.sfits; rounded = λ size. refl }
above (negsuc n) f t = absurd (let e : ◌≡◌ {A = ℕ} 0 1 = cc in omega arith)

neg_fits : (m : ℕ) → m ≤ 2 ^ 31 → SFits w32 (neg_ℤ (pos m))
neg_fits zero h = record { sfits = omega arith }
neg_fits (suc m) h = record { sfits = omega arith }

-- a count and its sign as they are computed
signed : (m : ℕ) → m ≤ 2 ^ 31 → to_z w64 (of_z w64 (pos 0 -ℤ to_z w64 (of_z w64 (pos m)))) ≡ neg_ℤ (pos m)
signed m h = rw (to_z_pos w64 {n = m} (omega arith), +ℤ_idl) (to_z-of_z {w = w64} (sfits_widen tt (neg_fits m h)))

module _ (c : After-from-count) where
  counted : c.half_up.result ≡ half_up c.args.size (nat_abs c.args.units)
  counted = c.half_up.ensures ∙ ap (half_up c.args.size) (rw (to_z-of_z c.ranges.units) at c.unsigned_abs.ensures.value)

  fewer : c.half_up.result ≤ nat_abs c.args.units
  fewer = rw counted (half_up_fewer c.args.size (nat_abs c.args.units))

down : (c : goal.Then-units-lt0) → Below c.args.units
down c = below c.args.units c.ranges.units (rw (to_z-of_z c.ranges.units) at c.if-units-lt0.true)

low : (c : goal.Then-units-lt0) → c.half_up.result ≤ 2 ^ 31
low c = omega (arith, (down c).small, fewer c.before)

negative : (c : goal.Then-units-lt0) → to_z w64 (of_z w64 (pos 0 -ℤ to_z w64 (of_z w64 c.from-count.result))) ≡ neg_ℤ (pos c.half_up.result)
negative c = rw c.from-count.ensures (signed c.half_up.result (low c))

up : (c : goal.Else-units-lt0) → Above c.args.units
up c = above c.args.units c.ranges.units (rw (to_z-of_z c.ranges.units) at c.if-units-lt0.false)

high : (c : goal.Else-units-lt0) → c.half_up.result < 2 ^ 31
high c = omega (arith, (up c).small, fewer c.before)

positive : (c : goal.Else-units-lt0) → to_z w64 (of_z w64 c.from-count.result) ≡ pos c.half_up.result
positive c = rw c.from-count.ensures (to_z_pos w64 (omega (arith, high c)))

pub overflow_cast-result : goal.overflow_cast-result
overflow_cast-result c = rw (negative c) (neg_fits c.half_up.result (low c))

pub returns-then-units-lt0 : goal.returns-then-units-lt0
returns-then-units-lt0 c = rw (negative c, to_z-of_z (neg_fits c.half_up.result (low c)), counted c.before, (down c).rounded)

pub overflow_cast-result-2 : goal.overflow_cast-result-2
overflow_cast-result-2 c = rw (positive c) (record { sfits = high c })

pub returns : goal.returns
returns c = rw (positive c, to_z_pos w32 (high c), counted c.before, (up c).rounded)
