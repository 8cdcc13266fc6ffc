-- A value within ±1,000,000,000 fits an i32. Assumes nothing.
use Rattle.std.proofs.Common.{arith, ℤ, pos, ◌≤◌, w32}
use lib.IntN.{negsuc, nat_abs}
use mir.Val.{SFits}

pub small_32 : (z : ℤ) → nat_abs z ≤ 1000000000 → SFits w32 z
small_32 (pos n) h = record { sfits = omega arith }
small_32 (negsuc n) h = record { sfits = omega arith }
