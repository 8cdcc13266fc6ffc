use Prim.Native.Nat.{◌+◌, ◌-◌, ◌≤◌}
use lib.ListN.{length}
use Rattle.rules.specs.Arguments.{quoted}
use Rattle.scan.proofs.arguments.Parts.{Onward}
use Rattle.scan.proofs.arguments.quoted_argument.Given as goal

abbrev pub invariant-loop-i : goal.invariant-loop-i
invariant-loop-i l = (l.at ≤ l.i) × (l.i ≤ length l.line) × (l.w + l.at ≤ l.written + l.i) × Onward quoted l.line l.at l.initial.out l.written l.i l.out l.w

abbrev pub decreases-loop-i : goal.decreases-loop-i
decreases-loop-i l = length l.line - l.i
