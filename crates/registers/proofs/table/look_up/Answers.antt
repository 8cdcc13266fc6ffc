-- `registers::table::look_up` meets its contract: the row of the name's place is the register that the rules look up. Assumes nothing.
use mathlib.Core.Path.{sym, ◌∙◌}
use lib.ListN.{get_or}
use lib.IntN.{pos}
use mir.Syntax.{w32}
use mir.Val.{SFits}
use mir.Facts.{to_z-of_z}
use Rattle.std.proofs.Common.{rules}
use Rattle.registers.proofs.table.Laws.{found_lookup, not_lookup}
use Rattle.registers.proofs.table.look_up.Goals as goal

pub returns-in-Ok : goal.returns-in-Ok
returns-in-Ok c =
    let v : SFits w32 (get_or c.args.registers.now.values.now c.in-Ok.i (pos 0)) = search rules in
    let s : SFits w32 (get_or c.args.registers.now.steps.now c.in-Ok.i (pos 0)) = search rules in
    rw (to_z-of_z v, to_z-of_z s)
    (sym (found_lookup c.args.registers.now.firsts.now c.args.registers.now.seconds.now c.args.registers.now.values.now c.args.registers.now.steps.now c.args.registers.now.count c.args.registers.now.sound c.args.name c.in-Ok.i (sym c.find.ensures.place ∙ c.in-Ok.is)))

pub returns-in-Err : goal.returns-in-Err
returns-in-Err c =
    sym (not_lookup c.args.registers.now.firsts.now c.args.registers.now.seconds.now c.args.registers.now.values.now c.args.registers.now.steps.now c.args.registers.now.count c.args.registers.now.sound c.args.name _ (sym c.find.ensures.place ∙ c.in-Err.is))
