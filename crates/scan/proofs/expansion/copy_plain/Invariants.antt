use Rattle.scan.specs.Output.Writes.{Passed}
use lib.ListN.{length}
use Prim.Native.Nat.{◌-◌}
use Rattle.scan.proofs.expansion.copy_plain.Given as goal

abbrev pub invariant-loop-byte : goal.invariant-loop-byte
invariant-loop-byte l = Passed l.text l.at l.left l.written l.limit l.initial.out l.i l.rest l.n l.out

abbrev pub decreases-loop-byte : goal.decreases-loop-byte
decreases-loop-byte l = length l.text - l.i
