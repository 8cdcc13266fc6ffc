use Prim.Native.Nat.{◌+◌}
use mathlib.Core.Path.{◌≡◌}
use Rattle.rules.specs.Arguments.{bare}
use Rattle.scan.proofs.arguments.Parts.{Onward}
use Rattle.scan.proofs.arguments.bare_argument.Given as goal

abbrev pub invariant-loop-i : goal.invariant-loop-i
invariant-loop-i l = (l.w + l.at ≡ l.written + l.i) × Onward bare l.line l.at l.initial.out l.written l.i l.out l.w
