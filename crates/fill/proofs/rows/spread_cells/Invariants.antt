use Rattle.fill.proofs.unfilled.Spreading.{Spreading}
use Rattle.fill.proofs.rows.spread_cells.Given as goal

abbrev pub invariant-loop-byte : goal.invariant-loop-byte
invariant-loop-byte l = Spreading l.all l.each l.few l.initial.row l.at l.row l.byte-index l.n l.left
