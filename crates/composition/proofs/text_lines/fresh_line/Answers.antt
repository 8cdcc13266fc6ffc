-- `composition::text_lines::fresh_line` meets its contract. Assumes nothing.
use mathlib.Core.Path.{sym, ap, ◌∙◌}
use Rattle.rules.specs.Filling.{words}
use Rattle.rules.specs.TextLines.{text_way, TextLineCase}
use Rattle.traps.specs.Table.Table.{planted_of}
use Rattle.fill.specs.Words.Parts.{bytes_between}
use Rattle.composition.specs.PageRows.PageState.{page_state, state_at}
use Rattle.composition.specs.Filling.Words.{fresh_way}
use Rattle.composition.proofs.filling.Works.{worked_as}
use Rattle.composition.proofs.text_lines.fresh_line.Goals as goal

pub returns-then-stands : goal.returns-then-stands
returns-then-stands c =
    let a = c.args in let l = bytes_between a.line.now 0 a.to in
    worked_as _ a.firsts.now a.seconds.now a.texts a.planted (page_state a.layout a.page a.collected a.cells.now a.stack a.arena.now a.ends.now) _ a.layout a.collected a.cells.now _ _ _ _ c.stand.ensures
    (λ ts x. ap (λ (w : TextLineCase). text_way w (words l) l (state_at ts (planted_of a.planted) (page_state a.layout a.page a.collected a.cells.now a.stack a.arena.now a.ends.now) x)) (ap fresh_way (sym c.stands.ensures ∙ c.if-stands.true)))

pub returns : goal.returns
returns c =
    let a = c.args in let l = bytes_between a.line.now 0 a.to in
    worked_as _ a.firsts.now a.seconds.now a.texts a.planted (page_state a.layout a.page a.collected a.cells.now a.stack a.arena.now a.ends.now) _ a.layout a.collected a.cells.now _ _ _ _ c.fill_line.ensures
    (λ ts x. ap (λ (w : TextLineCase). text_way w (words l) l (state_at ts (planted_of a.planted) (page_state a.layout a.page a.collected a.cells.now a.stack a.arena.now a.ends.now) x)) (ap fresh_way (sym c.stands.ensures ∙ c.if-stands.false)))
