use Rattle.scan.proofs.output.Decimals.{Digits}
use Rattle.scan.proofs.output.digits_of.Given as goal

abbrev pub invariant-loop-n : goal.invariant-loop-n
invariant-loop-n l = Digits l.value l.n l.at l.digits

abbrev pub decreases-loop-n : goal.decreases-loop-n
decreases-loop-n l = l.n
