-- `composition::text_lines::blank_line` meets its contract. Assumes nothing.
use mathlib.Core.Path.{refl}
use Rattle.traps.specs.Table.Table.{planted_of}
use Rattle.composition.specs.PageRows.PageState.{page_state}
use Rattle.composition.proofs.filling.Works.{worked_as}
use Rattle.composition.proofs.filling.Fills.{blank_breaks, blank_skips}
use Rattle.composition.proofs.text_lines.blank_line.Goals as goal

pub returns-then-collected : goal.returns-then-collected
returns-then-collected c =
    let a = c.args in
    worked_as _ a.firsts.now a.seconds.now a.texts a.planted (page_state a.layout a.page a.collected a.cells.now a.stack a.arena.now a.ends.now) _ a.layout a.collected a.cells.now _ _ _ _ c.break_line.ensures
    (λ ts x. blank_breaks ts (planted_of a.planted) a.layout a.page a.collected a.cells.now a.stack a.arena.now a.ends.now 0 x _ c.if-collected.true refl)

pub returns : goal.returns
returns c =
    let a = c.args in
    worked_as _ a.firsts.now a.seconds.now a.texts a.planted (page_state a.layout a.page a.collected a.cells.now a.stack a.arena.now a.ends.now) _ a.layout a.collected a.cells.now _ _ _ _ c.skip.ensures
    (λ ts x. blank_skips ts (planted_of a.planted) a.layout a.page a.collected a.cells.now a.stack a.arena.now a.ends.now 0 x c.if-collected.false)
