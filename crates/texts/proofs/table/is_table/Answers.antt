-- `texts::table::is_table` meets its contract: no sum of lengths is too great. Assumes nothing.
use Rattle.std.proofs.Common.{arith}
use Rattle.texts.proofs.table.CheckLaws.{total_low}
use Rattle.texts.proofs.table.is_table.Goals as goal

pub start_of-requires : goal.start_of-requires
start_of-requires c = record { few = omega arith; fits = omega (arith, total_low c.args.lengths.now c.fits-lengths c.args.count) }
