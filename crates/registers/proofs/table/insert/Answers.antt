-- `registers::table::insert` meets its contract: a part that is copied one place down, and a place that is set. Assumes nothing.
use Rattle.registers.proofs.table.Laws.{insert_done}
use Rattle.registers.proofs.table.insert.Goals as goal

pub returns : goal.returns
returns g c = insert_done c.args.column.now c.copy_within.new.self c.args.place c.args.count c.args.new c.requires.0 c.requires.1 c.copy_within.ensures.after
