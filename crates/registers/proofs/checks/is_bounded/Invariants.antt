use mathlib.Core.Path.{◌≡◌}
use mathlib.Core.Bool.{◌&&◌}
use lib.ListN.{drop}
use Rattle.registers.specs.Checks.Checks.{all_within, is_bounded}
use Rattle.registers.proofs.checks.CheckLaws.{pairs_of}
use Rattle.registers.proofs.checks.is_bounded.Given as goal

abbrev pub invariant-loop-i : goal.invariant-loop-i
invariant-loop-i l = is_bounded l.values l.steps l.count ≡ (l.within && all_within (drop l.i (pairs_of l.values l.steps l.count)))
