-- `composition::text_lines::word_line` meets its contract. Assumes nothing.
use mathlib.Core.Path.{sym, ap, ◌∙◌}
use Rattle.rules.specs.Filling.{words, leads}
use Rattle.rules.specs.TextLines.{text_way, TextLineCase, as_it_stands}
use Rattle.traps.specs.Table.Table.{planted_of}
use Rattle.fill.specs.Words.Parts.{bytes_between}
use Rattle.settings.specs.Layout.Layouts.{layout_of}
use Rattle.composition.specs.PageRows.PageState.{page_state, state_at}
use Rattle.composition.proofs.filling.Works.{worked_as}
use Rattle.composition.proofs.filling.Fills.{way_breaks, way_fresh}
use Rattle.composition.proofs.text_lines.word_line.Goals as goal

pub returns-then-breaks_first : goal.returns-then-breaks_first
returns-then-breaks_first c =
    let a = c.args in let l = bytes_between a.line.now 0 a.to in
    worked_as _ a.firsts.now a.seconds.now a.texts a.planted (page_state a.layout a.page a.collected a.cells.now a.stack a.arena.now a.ends.now) _ a.layout a.collected a.cells.now _ _ _ _ c.break_first.ensures
    (λ ts x. ap (λ (w : TextLineCase). text_way w (words l) l (state_at ts (planted_of a.planted) (page_state a.layout a.page a.collected a.cells.now a.stack a.arena.now a.ends.now) x)) (way_breaks a.collected.there (as_it_stands (layout_of a.layout)) (leads (words l)) _ (sym c.breaks_first.ensures ∙ c.if-breaks_first.true)))

pub returns : goal.returns
returns c =
    let a = c.args in let l = bytes_between a.line.now 0 a.to in
    worked_as _ a.firsts.now a.seconds.now a.texts a.planted (page_state a.layout a.page a.collected a.cells.now a.stack a.arena.now a.ends.now) _ a.layout a.collected a.cells.now _ _ _ _ c.fresh_line.ensures
    (λ ts x. ap (λ (w : TextLineCase). text_way w (words l) l (state_at ts (planted_of a.planted) (page_state a.layout a.page a.collected a.cells.now a.stack a.arena.now a.ends.now) x)) (way_fresh a.collected.there (as_it_stands (layout_of a.layout)) (leads (words l)) _ (sym c.breaks_first.ensures ∙ c.if-breaks_first.false)))
