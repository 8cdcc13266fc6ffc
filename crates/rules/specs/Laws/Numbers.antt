-- What is bounded, and that what passes the test is. That every value is within ±1,000,000,000 is proved in proofs/Laws/Numbers.antt. Assumes nothing.
use Rattle.std.specs.Prelude.{ℤ, leb, nat_abs, ◌≤◌}
use Rattle.std.proofs.Common.{leb-true}
use Rattle.rules.specs.Laws.Refusals.{Every, tested_every}
use Rattle.rules.specs.Numbers.{within}

-- "outside ±1,000,000,000"
abbrev pub Bounded : ℤ → Type 0
Bounded z = nat_abs z ≤ 1000000000

-- what passes the test is bounded
pub within_bounded : (z : ℤ) → Every Bounded (within z)
within_bounded z = tested_every (leb (nat_abs z) 1000000000) 6 z (leb-true (nat_abs z) 1000000000)
