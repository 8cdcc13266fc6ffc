use Prim.Native.Nat.{◌+◌, ◌*◌}
use mathlib.Core.Path.{◌≡◌}
use lib.ListN.{take, drop}
use Rattle.record_checks.specs.Soundness.Checks.{ends_in_order, are_arguments}
use Rattle.record_checks.proofs.soundness.are_arguments.Given as goal

abbrev pub invariant-loop-end : goal.invariant-loop-end
invariant-loop-end l = are_arguments (take 9 (drop (l.frame * 13 + 4) l.ends)) l.count l.size ≡ ends_in_order l.from l.size (drop l.end-index l.given)
