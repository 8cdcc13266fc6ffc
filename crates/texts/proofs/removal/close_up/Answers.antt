-- `texts::removal::close_up` meets its contract. Assumes nothing.
use Rattle.std.proofs.Common.{◌∙◌, arith}
use Rattle.texts.proofs.table.Lists.{closed_paste}
use Rattle.texts.proofs.removal.close_up.Goals as goal

pub returns : goal.returns
returns g c = c.copy_within.ensures.after ∙ closed_paste c.args.column.now c.args.place c.args.count (omega arith) (omega arith)
