-- `source_line::write` meets its contract. The invariant: j of the bytes are written. Assumes nothing.
use Rattle.std.proofs.Common.{arith}
use Rattle.source_line.proofs.Laws.{copy_step}
use Rattle.source_line.proofs.write.Goals as goal

pub loop-j-preserved : goal.loop-j-preserved
loop-j-preserved c =
    let a = c.args in
    rw c.loop-j.invariant (copy_step a.out.now a.from a.row.now a.at c.loop-j.j (omega (arith, c.requires.place)) (omega (arith, c.requires.long, c.requires.inside)))
