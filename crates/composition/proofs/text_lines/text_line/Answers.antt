-- `composition::text_lines::text_line` meets its contract. Assumes nothing.
use mathlib.Core.Path.{sym, ◌∙◌}
use native.Mathlib.Omega.{arith}
use Rattle.traps.specs.Table.Table.{planted_of}
use Rattle.fill.specs.Words.Parts.{bytes_between}
use Rattle.composition.specs.PageRows.PageState.{page_state}
use Rattle.composition.proofs.filling.Works.{worked_as}
use Rattle.composition.proofs.filling.Fills.{part_short, text_starts, text_blank, text_words}
use Rattle.composition.proofs.text_lines.text_line.Goals as goal

pub start-requires : goal.start-requires
start-requires c =
    let b = c.requires.0 in
    (record { sound = b.sound; items = b.items; short = rw c.slice-bytes.ensures (part_short c.args.line.now 0 c.args.to c.requires.1); long = b.long; names = b.names }, tt)

pub returns-then-page-eq0 : goal.returns-then-page-eq0
returns-then-page-eq0 c =
    let a = c.args in
    worked_as _ a.firsts.now a.seconds.now a.texts a.planted (page_state a.layout a.page a.collected a.cells.now a.stack a.arena.now a.ends.now) _ a.layout a.collected a.cells.now _ _ _ _ c.start.ensures
    (λ ts x. text_starts ts (planted_of a.planted) a.layout a.page a.collected a.cells.now a.stack a.arena.now a.ends.now 0 x (bytes_between a.line.now 0 a.to) _ c.slice-bytes.ensures (omega (arith, c.if-page-eq0.true)))

pub returns-then-is_blank : goal.returns-then-is_blank
returns-then-is_blank c =
    let a = c.args in
    worked_as _ a.firsts.now a.seconds.now a.texts a.planted (page_state a.layout a.page a.collected a.cells.now a.stack a.arena.now a.ends.now) _ a.layout a.collected a.cells.now _ _ _ _ c.blank_line.ensures
    (λ ts x. text_blank ts (planted_of a.planted) a.layout a.page a.collected a.cells.now a.stack a.arena.now a.ends.now 0 x (bytes_between a.line.now 0 a.to) (omega (arith, c.if-page-eq0.false)) (sym c.is_blank.ensures ∙ c.if-is_blank.true))

pub returns : goal.returns
returns c =
    let a = c.args in
    worked_as _ a.firsts.now a.seconds.now a.texts a.planted (page_state a.layout a.page a.collected a.cells.now a.stack a.arena.now a.ends.now) _ a.layout a.collected a.cells.now _ _ _ _ c.word_line.ensures
    (λ ts x. text_words ts (planted_of a.planted) a.layout a.page a.collected a.cells.now a.stack a.arena.now a.ends.now 0 x (bytes_between a.line.now 0 a.to) (omega (arith, c.if-page-eq0.false)) (sym c.is_blank.ensures ∙ c.if-is_blank.false))
