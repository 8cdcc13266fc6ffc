-- `formatter::held_items::resume` meets its contract. Assumes nothing.
use mathlib.Core.Path.{sym, ap}
use mathlib.Core.List.{List}
use Prim.Native.Nat.{ℕ}
use lib.ListN.{take}
use Rattle.rules.specs.Filling.{words}
use Rattle.rules.specs.Rows.{eject}
use Rattle.rules.specs.TextLines.{text_line, fill}
use Rattle.rules.specs.Acts.{act}
use Rattle.settings.specs.Layout.Layouts.{printer_of}
use Rattle.fill.specs.Words.Parts.{bytes_between}
use Rattle.fill.proofs.words.Parts.{part_zero}
use Rattle.input_stack.specs.declared.frames.What.TheVariants as what
use Rattle.state.specs.Whole.{state_in}
use Rattle.state.specs.WholeLaws.{page_refines, refines_as}
use Rattle.state.specs.Statuses.{whole_of}
use Rattle.formatter.specs.StoredLines.Works.{resumed}
use Rattle.formatter.proofs.held_items.resume.Goals as goal

pub returns-in-Text : goal.returns-in-Text
returns-in-Text c = let a = c.args in let b = c.requires.0 in rw (c.in-Text.is, c.moved.ensures) (refines_as _ (resumed (printer_of a.printer) what.Text (take a.size a.line.now)) (whole_of a.status a.cells.now a.arena.now a.ends.now a.store.now a.text_firsts.now a.text_seconds.now a.kinds.now a.lengths.now a.firsts.now a.seconds.now a.values.now a.steps.now) _ _ _ _ (λ x. sym (ap (λ (l : List ℕ). text_line l (state_in (whole_of a.status a.cells.now a.arena.now a.ends.now a.store.now a.text_firsts.now a.text_seconds.now a.kinds.now a.lengths.now a.firsts.now a.seconds.now a.values.now a.steps.now) x)) (sym (part_zero a.line.now a.size)))) (page_refines (λ ts s. text_line (bytes_between a.line.now 0 a.size) s) (whole_of a.status a.cells.now a.arena.now a.ends.now a.store.now a.text_firsts.now a.text_seconds.now a.kinds.now a.lengths.now a.firsts.now a.seconds.now a.values.now a.steps.now) _ _ _ _ b.sound c.text_line-outcome.ensures))

pub returns-in-Others : goal.returns-in-Others
returns-in-Others c = let a = c.args in let b = c.requires.0 in rw (c.in-Others.is, c.moved-in-Others.ensures) (refines_as _ (resumed (printer_of a.printer) (what.Others c.in-Others.gap) (take a.size a.line.now)) (whole_of a.status a.cells.now a.arena.now a.ends.now a.store.now a.text_firsts.now a.text_seconds.now a.kinds.now a.lengths.now a.firsts.now a.seconds.now a.values.now a.steps.now) _ _ _ _ (λ x. sym (ap (λ (l : List ℕ). fill (words l) c.in-Others.gap (state_in (whole_of a.status a.cells.now a.arena.now a.ends.now a.store.now a.text_firsts.now a.text_seconds.now a.kinds.now a.lengths.now a.firsts.now a.seconds.now a.values.now a.steps.now) x)) (sym (part_zero a.line.now a.size)))) (page_refines (λ ts s. fill (words (bytes_between a.line.now 0 a.size)) c.in-Others.gap s) (whole_of a.status a.cells.now a.arena.now a.ends.now a.store.now a.text_firsts.now a.text_seconds.now a.kinds.now a.lengths.now a.firsts.now a.seconds.now a.values.now a.steps.now) _ _ _ _ b.sound (rw (c.cells_across-behind.ensures, c.from.ensures) at c.fill_rest-outcome.ensures)))

pub returns-in-Acts : goal.returns-in-Acts
returns-in-Acts c = let a = c.args in let b = c.requires.0 in rw (c.in-Acts.is, c.moved-in-Acts.ensures) (page_refines (λ ts s. act (printer_of a.printer) c.in-Acts.request (take a.size a.line.now) s) (whole_of a.status a.cells.now a.arena.now a.ends.now a.store.now a.text_firsts.now a.text_seconds.now a.kinds.now a.lengths.now a.firsts.now a.seconds.now a.values.now a.steps.now) _ _ _ _ b.sound c.act-outcome.ensures)

pub returns-in-Ejects : goal.returns-in-Ejects
returns-in-Ejects c = let a = c.args in let b = c.requires.0 in rw (c.in-Ejects.is, c.moved-in-Ejects.ensures) (page_refines (λ ts s. eject c.in-Ejects.from s) (whole_of a.status a.cells.now a.arena.now a.ends.now a.store.now a.text_firsts.now a.text_seconds.now a.kinds.now a.lengths.now a.firsts.now a.seconds.now a.values.now a.steps.now) _ _ _ _ b.sound c.eject-outcome.ensures)
