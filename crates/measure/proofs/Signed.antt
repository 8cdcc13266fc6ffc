-- Signed numbers: their size, and how they are read back from their bits. Assumes nothing.
use Prim.Native.Nat.{ℕ, suc, ◌+◌, ◌-◌, ◌≤◌, ◌<◌, ◌^◌, zero-le}
use mathlib.Core.Path.{◌≡◌, refl}
use mathlib.Core.Bool.{Bool, true, false, cond}
use native.Mathlib.Omega.{arith}
use lib.IntN.{ℤ, pos, negsuc, nat_abs, ◌+ℤ◌}
use lib.Dec.{ltb}
use lib.Signed.{lt_z}
use borrow.Author.Tests.{le-ltb, ltb-true}
use mir.Syntax.{w32, w64}
use mir.Val.{SFits, to_z, of_z}
use mir.Facts.{to_z-of_z, sfits_widen}
use Rattle.measure.specs.Counts.{nat_of}

-- the size of a sum
abs_sub : (a b : ℕ) (t : Bool) → ltb a b ≡ t → nat_abs (cond t (negsuc (b - suc a)) (pos (a - b))) ≤ a + b
abs_sub a b true e = let h = ltb-true a b e in omega arith
abs_sub a b false e = omega arith

pub abs_add : (a b : ℤ) → nat_abs (a +ℤ b) ≤ nat_abs a + nat_abs b
abs_add (pos a) (pos b) = omega arith
abs_add (pos a) (negsuc b) = abs_sub a (suc b) (ltb a (suc b)) refl
abs_add (negsuc a) (pos b) = let h = abs_sub b (suc a) (ltb b (suc a)) refl in omega arith
abs_add (negsuc a) (negsuc b) = omega arith

pub small : (z : ℤ) → nat_abs z < 2 ^ 63 → SFits w64 z
small (pos n) h = record { sfits = h }
small (negsuc n) h = record { sfits = omega arith }

-- `x as i64` of an i32 is x
pub widened : {z : ℤ} → SFits w32 z → to_z w64 (of_z w64 (to_z w32 (of_z w32 z))) ≡ z
widened h = rw (to_z-of_z h, to_z-of_z {w = w64} (sfits_widen tt h))

-- a count below zero, and another
pub below : (z : ℤ) → lt_z z (pos 0) ≡ true → 0 ≡ nat_of z
below (pos n) t = absurd (let e : ◌≡◌ {A = ℕ} 0 1 = cc (le-ltb n 0 zero-le) in omega arith)
below (negsuc n) t = refl

pub record Above (z : ℤ) : Type 0 where
  pub low : nat_abs z < 2 ^ 31
  pub plain : z ≡ pos (nat_abs z)
  pub is : nat_abs z ≡ nat_of z

pub above : (z : ℤ) → SFits w32 z → lt_z z (pos 0) ≡ false → Above z
above (pos n) f t = record { low = f.sfits; plain = refl; is = refl }
above (negsuc n) f t = absurd (let e : ◌≡◌ {A = ℕ} 0 1 = cc in omega arith)
