use Prim.Native.Nat.{◌-◌}
use Rattle.fill.proofs.collected.Placing.{Placing}
use Rattle.fill.proofs.collected.place.Given as goal

abbrev pub invariant-loop-from : goal.invariant-loop-from
invariant-loop-from l = Placing l.line l.at l.to l.initial.before l.initial.cells l.length l.limit l.cells l.from l.before l.n

abbrev pub decreases-loop-from : goal.decreases-loop-from
decreases-loop-from l = l.to - l.from
