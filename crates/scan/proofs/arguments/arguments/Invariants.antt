use Rattle.scan.proofs.arguments.Parting.{Onward}
use Rattle.scan.proofs.arguments.arguments.Given as goal

abbrev pub invariant-loop-count : goal.invariant-loop-count
invariant-loop-count l = Onward l.line l.at l.i l.out l.ends l.count l.w
