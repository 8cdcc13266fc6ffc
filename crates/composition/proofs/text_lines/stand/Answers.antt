-- `composition::text_lines::stand` meets its contract. Assumes nothing.
use mathlib.Core.Path.{refl, ◌∙◌}
use native.Mathlib.Omega.{arith}
use Rattle.rules.specs.Filling.{words, standing_row}
use Rattle.traps.specs.Table.Table.{planted_of}
use Rattle.fill.specs.Words.Parts.{bytes_between}
use Rattle.fill.proofs.unfilled.Layouts.{standing_is}
use Rattle.settings.specs.Layout.Layouts.{layout_of}
use Rattle.std.specs.Prelude.{None, []}
use Rattle.composition.specs.PageRows.PageState.{page_state}
use Rattle.composition.proofs.filling.Works.{written_front, moves_on}
use Rattle.composition.proofs.filling.Fills.{line_stands}
use Rattle.composition.proofs.text_lines.stand.Goals as goal

pub returns : goal.returns
returns c =
    let a = c.args in let b = c.requires.0 in
    let d = page_state a.layout a.page a.collected a.cells.now a.stack a.arena.now a.ends.now in
    let ws = words (bytes_between a.line.now 0 a.to) in
    let i = c.indent_now-indent in let r = c.room_now-room in let w = c.standing_row-written in let u = c.counted-counted in let m = c.down-landed in
    let t = written_front _ _ _ _ w.ensures.written (omega (arith, w.ensures.upper_bound, b.long)) in
    rw c.lead_to.ensures
    (moves_on _ a.firsts.now a.seconds.now a.texts a.planted d u.result a.collected a.cells.now None [] 1 m.result _ _ m.ensures
    (standing_row (layout_of a.layout) ws) _ w.result
    (rw (i.ensures, r.ensures.is) at t ∙ standing_is (layout_of a.layout) ws)
    w.ensures.upper_bound (w.ensures.written.long ∙ b.long)
    (λ ts x. line_stands ts (planted_of a.planted) a.layout a.page a.collected a.cells.now a.stack a.arena.now a.ends.now 0 x u.result ws (bytes_between a.line.now 0 a.to) (standing_row (layout_of a.layout) ws) [] u.ensures.is refl)
    u.ensures.limits b.sound.numbered b.sound.few b.sound.line b.sound.indent b.sound.next)
