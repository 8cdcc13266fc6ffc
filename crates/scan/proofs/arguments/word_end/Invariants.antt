use Prim.Native.Nat.{◌-◌}
use mathlib.Core.Path.{◌≡◌}
use lib.ListN.{drop, take}
use Rattle.rules.specs.Arguments.{bare, up_to}
use Rattle.scan.proofs.arguments.Parts.{ahead}
use Rattle.scan.proofs.arguments.word_end.Given as goal

abbrev pub invariant-loop-i : goal.invariant-loop-i
invariant-loop-i l = up_to bare (drop l.at l.line) ≡ ahead (take (l.i - l.at) (drop l.at l.line)) (up_to bare (drop l.i l.line))
