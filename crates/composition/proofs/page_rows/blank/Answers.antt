-- `composition::page_rows::blank` meets its contract. Assumes nothing.
use mathlib.Core.Path.{refl}
use Rattle.measure.specs.Counts.{down_of}
use Rattle.rules.specs.Rows as rule
use Rattle.composition.specs.PageRows.PageState.{page_state}
use Rattle.composition.proofs.page_rows.Work.{moves}
use Rattle.composition.proofs.page_rows.blank.Goals as goal

pub returns : goal.returns
returns c =
    let a = c.args in let b = c.requires.0 in
    let d = page_state a.layout a.page a.collected a.cells.now a.stack a.arena.now a.ends.now in
    let w = c.blank_rows-written.ensures in
    rw c.lead_to.ensures
    (moves a.firsts.now a.seconds.now a.texts a.planted d _ _ (rule.down (down_of a.rows)) a.collected a.held a.bytes.now _ _ _ _ _ _ c.down-landed.ensures w.written w.upper_bound b.long
    b.sound (λ ts x. refl))
