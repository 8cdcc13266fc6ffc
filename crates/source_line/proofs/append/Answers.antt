-- `source_line::append` meets its contract. The invariant: j bytes are copied. Assumes nothing.
use Rattle.std.proofs.Common.{add-one, arith}
use Rattle.std.proofs.Math.Seq.{paste-suc}
use Rattle.source_line.proofs.append.Goals as goal

pub loop-j-preserved : goal.loop-j-preserved
loop-j-preserved c =
    let a = c.args in let j = c.loop-j.j in
    rw (c.loop-j.invariant, add-one j) (paste-suc a.line.now a.start a.block.now j 0 (omega (arith, c.requires.fits, c.requires.long)) (omega arith))
