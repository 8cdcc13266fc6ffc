-- `composition::page_rows::break_line` meets its contract. Assumes nothing.
use Rattle.traps.specs.Table.Table.{planted_of}
use Rattle.page.specs.Springs.Held.{held_of}
use Rattle.rules.specs.Rows as rule
use Rattle.composition.specs.PageRows.PageState.{page_state, no_line}
use Rattle.composition.proofs.page_rows.Work.{cleared, moves, break_is}
use Rattle.composition.proofs.page_rows.break_line.Goals as goal

pub returns : goal.returns
returns c =
    let a = c.args in let b = c.requires.0 in
    let d = page_state a.layout a.page a.collected a.cells.now a.stack a.arena.now a.ends.now in
    let w = c.broken_row-written.ensures in
    rw (c.lead_to.ensures, c.nothing_collected.ensures)
    (moves a.firsts.now a.seconds.now a.texts a.planted d _ _ (rule.down 1) no_line a.held a.bytes.now _ _ _ _ _ _ c.down-landed.ensures w.written w.upper_bound b.long
    (cleared a.planted d b.sound) (λ ts x. break_is d (planted_of a.planted) (held_of ts a.held a.bytes.now) ts x))
