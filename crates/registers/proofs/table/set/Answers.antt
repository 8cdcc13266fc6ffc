-- `registers::table::set` meets its contract: a law for each way out. Assumes nothing.
use mathlib.Core.Path.{sym, ◌∙◌}
use native.Mathlib.Omega.{arith}
use mir.Facts.{to_z-of_z}
use Rattle.std.proofs.Common.{rules}
use Rattle.registers.proofs.table.Laws.{set_old, set_new, set_new_table, set_full}
use Rattle.registers.proofs.table.set.Goals as goal

pub returns-in-Ok : goal.returns-in-Ok
returns-in-Ok c = record {
  is = rw (to_z-of_z c.ranges.value, to_z-of_z c.ranges.step)
      (set_old c.args.registers.now.firsts.now c.args.registers.now.seconds.now c.args.registers.now.values.now c.args.registers.now.steps.now c.args.registers.now.count c.args.registers.now.sound c.args.name c.in-Ok.i c.args.value c.args.step (sym c.find.ensures.place ∙ c.in-Ok.is));
  kept = tt;
  loans = search rules;
}

pub returns-then-count-ge-TABLE_SIZE : goal.returns-then-count-ge-TABLE_SIZE
returns-then-count-ge-TABLE_SIZE c = record {
  is = set_full c.args.registers.now.firsts.now c.args.registers.now.seconds.now c.args.registers.now.values.now c.args.registers.now.steps.now c.args.registers.now.count c.args.registers.now.sound c.args.name c.in-Err.i c.args.value c.args.step (sym c.find.ensures.place ∙ c.in-Err.is) (omega arith);
  kept = search rules;
  loans = search rules;
}

pub invariant_of-registers-in-Err : goal.invariant_of-registers-in-Err
invariant_of-registers-in-Err c = record {
  sound = rw (c.insert.ensures, c.insert-in-Err.ensures, rw (to_z-of_z c.ranges.value) at c.insert-in-Err-2.ensures, rw (to_z-of_z c.ranges.step) at c.insert-in-Err-3.ensures)
      (set_new_table c.args.registers.now.firsts.now c.args.registers.now.seconds.now c.args.registers.now.values.now c.args.registers.now.steps.now c.args.registers.now.count c.args.registers.now.sound c.args.name c.in-Err.i c.args.value c.args.step (sym c.find.ensures.place ∙ c.in-Err.is) (omega arith));
}

pub returns-else-count-ge-TABLE_SIZE : goal.returns-else-count-ge-TABLE_SIZE
returns-else-count-ge-TABLE_SIZE c = record {
  is = rw (c.insert.ensures, c.insert-in-Err.ensures, rw (to_z-of_z c.ranges.value) at c.insert-in-Err-2.ensures, rw (to_z-of_z c.ranges.step) at c.insert-in-Err-3.ensures)
      (set_new c.args.registers.now.firsts.now c.args.registers.now.seconds.now c.args.registers.now.values.now c.args.registers.now.steps.now c.args.registers.now.count c.args.registers.now.sound c.args.name c.in-Err.i c.args.value c.args.step (sym c.find.ensures.place ∙ c.in-Err.is) (omega arith));
  kept = tt;
  loans = search rules;
}
