use mathlib.Core.Path.{◌≡◌}
use lib.ListN.{drop}
use Rattle.rules.specs.Arguments.{after_spaces}
use Rattle.scan.proofs.arguments.skip_spaces.Given as goal

abbrev pub invariant-loop-i : goal.invariant-loop-i
invariant-loop-i l = after_spaces (drop l.at l.line) ≡ after_spaces (drop l.i l.line)
