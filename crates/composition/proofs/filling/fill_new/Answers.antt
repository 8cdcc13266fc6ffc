-- `composition::filling::fill_new` meets its contract. Assumes nothing.
use mathlib.Core.Path.{refl}
use mathlib.Core.Bool.{true}
use mathlib.Core.List.{◌++◌}
use native.Mathlib.Omega.{arith}
use lib.ListN.{replicate}
use Rattle.measure.specs.Counts.{across_of, cells_across}
use Rattle.rules.specs.Bytes.{fixed_blank}
use Rattle.rules.specs.Filling.{words}
use Rattle.traps.specs.Table.Table.{planted_of}
use Rattle.fill.specs.Words.Parts.{bytes_between}
use Rattle.settings.specs.Layout.Layouts.{layout_of}
use Rattle.composition.specs.declared.page_rows.Collected.{Collected}
use Rattle.composition.specs.PageRows.PageState.{page_state}
use Rattle.composition.specs.Filling.Words.{leading_word}
use Rattle.composition.proofs.filling.Works.{written_front, worked_as}
use Rattle.composition.proofs.filling.Fills.{line_begun, begun_filled}
use Rattle.composition.proofs.filling.fill_new.Goals as goal

pub returns : goal.returns
returns c =
    let a = c.args in let b = c.requires.0 in let q = c.requires.1 in
    let n = c.begin_line-length in let u = c.begun-begun in let r = c.room_now-room in let i = c.indent_now in let p = c.place_others-placed.ensures in
    let d = page_state a.layout a.page a.collected a.cells.now a.stack a.arena.now a.ends.now in
    let fresh : Collected = record { there = true; indent = i.result; room = r.result; length = n.result; next = cells_across 1 } in
    let bs = bytes_between a.line.now a.found.from a.found.to in
    worked_as _ a.firsts.now a.seconds.now a.texts a.planted d _ u.result fresh _ _ _ _ _ c.fill_placed.ensures
    (λ ts x. begun_filled ts (planted_of a.planted) a.layout a.page a.collected a.cells.now a.stack a.arena.now a.ends.now a.gap x u.result fresh _
    (leading_word (across_of a.lead) bs) (words (bytes_between a.line.now a.found.to a.to)) _ _ c.requires.2 u.ensures.is (p.is (across_of i.result) 1)
    (line_begun (layout_of a.layout) i.result r.result _ n.result 1 1 0 (replicate (across_of a.lead) fixed_blank ++ bs) i.ensures r.ensures.is (written_front _ _ _ _ n.ensures.written (omega (arith, n.ensures.places.few, b.sound.line.long))) refl))
