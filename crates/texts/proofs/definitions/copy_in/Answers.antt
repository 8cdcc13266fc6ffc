-- `texts::definitions::copy_in` meets its contract. The invariant: j bytes are copied. Assumes nothing.
use Rattle.std.proofs.Common.{arith}
use Rattle.texts.proofs.table.Lists.{copy_step}
use Rattle.texts.proofs.definitions.copy_in.Goals as goal

pub loop-j-preserved : goal.loop-j-preserved
loop-j-preserved g c =
    rw c.loop-j.invariant (copy_step c.args.store.now c.args.at c.args.text.now c.loop-j.j _ (omega arith) (omega arith) c.index-text-j.is)
