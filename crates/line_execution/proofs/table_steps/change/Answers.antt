-- `line_execution::table_steps::change` meets its contract. Assumes nothing.
use borrow.Author.Rules.{rules}
use Rattle.rules.specs.declared.TableChange.TheVariants.{Nr, De, Rm, Wh}
use Rattle.rules.specs.Acts.{change}
use Rattle.settings.specs.Layout.Layouts.{printer_of}
use Rattle.line_execution.specs.TableSteps.StepLaws.{assigned_refines, planted_refines, changed_refines, opened_refines, texts_moved, registers_moved}
use Rattle.requests.specs.Nr.Lent.{assigns_columns}
use Rattle.line_execution.proofs.table_steps.change.Goals as goal

pub returns-in-Nr : goal.returns-in-Nr
returns-in-Nr c = let a = c.args in let b = c.requires.0 in rw (c.in-Nr.is, c.assigned.ensures) (registers_moved (search rules) (search rules) (search rules) (search rules) (assigned_refines a.status a.cells.now a.arena.now a.ends.now a.store.now a.text_firsts.now a.text_seconds.now a.kinds.now a.lengths.now a.firsts.now a.seconds.now a.values.now a.steps.now a.line.now a.row.now a.printer b (λ s. change (printer_of a.printer) Nr a.line.now s) _ _ _ _ _ (assigns_columns _ _ _ _ c.assign-answer.ensures)))

pub returns-in-Wh : goal.returns-in-Wh
returns-in-Wh c = let a = c.args in let b = c.requires.0 in rw (c.in-Wh.is, c.trapped.ensures) (planted_refines a.status a.cells.now a.arena.now a.ends.now a.store.now a.text_firsts.now a.text_seconds.now a.kinds.now a.lengths.now a.firsts.now a.seconds.now a.values.now a.steps.now a.line.now a.row.now a.printer b (λ s. change (printer_of a.printer) Wh a.line.now s) _ c.plant-answer.ensures)

pub returns-in-Rm : goal.returns-in-Rm
returns-in-Rm c = let a = c.args in let b = c.requires.0 in rw (c.in-Rm.is, c.texts_changed.ensures) (texts_moved (search rules) (search rules) (search rules) (search rules) (search rules) (changed_refines a.status a.cells.now a.arena.now a.ends.now a.store.now a.text_firsts.now a.text_seconds.now a.kinds.now a.lengths.now a.firsts.now a.seconds.now a.values.now a.steps.now a.line.now a.row.now a.printer b c.requires.1 _ _ _ _ _ (λ s. change (printer_of a.printer) Rm a.line.now s) _ c.remove-answer.ensures.changes))

pub returns-in-De : goal.returns-in-De
returns-in-De c = let a = c.args in let b = c.requires.0 in rw (c.in-De.is, c.opened.ensures) (texts_moved (search rules) (search rules) (search rules) (search rules) (search rules) (opened_refines a.status a.cells.now a.arena.now a.ends.now a.store.now a.text_firsts.now a.text_seconds.now a.kinds.now a.lengths.now a.firsts.now a.seconds.now a.values.now a.steps.now a.line.now a.row.now a.printer b c.requires.1 _ _ _ _ _ (λ s. change (printer_of a.printer) De a.line.now s) _ _ c.open-answer.ensures.opens c.open-answer.ensures.opening))
