-- `line_execution::control_lines::request` meets its contract. Assumes nothing.
use Rattle.rules.specs.Acts.{argument_at, settles, set_page, lay, defines, decide}
use Rattle.settings.specs.Layout.Layouts.{printer_of}
use Rattle.composition.specs.PageRows.PageState.{page_state}
use Rattle.composition.specs.BreakRequests.Obeying.{obeyed}
use Rattle.composition.proofs.page_rows.Settling.{settle_works}
use Rattle.state.specs.WholeLaws.{page_refines}
use Rattle.state.specs.Statuses.{whole_of}
use Rattle.line_execution.specs.TableSteps.StepLaws.{changed_refines, texts_moved}
use borrow.Author.Rules.{rules}
use Rattle.line_execution.proofs.control_lines.request.Goals as goal

pub returns-in-Breaks : goal.returns-in-Breaks
returns-in-Breaks c = let a = c.args in let b = c.requires.0 in rw (c.in-Breaks.is, c.moved.ensures) (page_refines (λ ts s. obeyed (printer_of a.printer) a.period c.in-Breaks.breaking a.name a.line.now s) (whole_of a.status a.cells.now a.arena.now a.ends.now a.store.now a.text_firsts.now a.text_seconds.now a.kinds.now a.lengths.now a.firsts.now a.seconds.now a.values.now a.steps.now) _ _ _ _ b.sound c.obey-outcome.ensures)

pub returns-in-Lays : goal.returns-in-Lays
returns-in-Lays c = let a = c.args in let b = c.requires.0 in let r = c.in-Lays.setting in let h = c.set_page-new.ensures in rw (c.in-Lays.is, c.moved-in-Lays.ensures, c.settle-outcome.ensures) (page_refines (λ ts s. lay (printer_of a.printer) r a.line.now s) (whole_of a.status a.cells.now a.arena.now a.ends.now a.store.now a.text_firsts.now a.text_seconds.now a.kinds.now a.lengths.now a.firsts.now a.seconds.now a.values.now a.steps.now) _ _ _ _ b.sound (settle_works a.text_firsts.now a.text_seconds.now a.status.texts a.status.planted (page_state a.status.layout a.status.page a.status.collected a.cells.now a.status.stack a.arena.now a.ends.now) a.row.now b.sound.page_state b.items b.long (λ x. set_page (printer_of a.printer) r x.page.used (argument_at 0 a.line.now) x.layout) c.set_page-new.result (λ ts x. h.is) h.limits (h.above b.sound.page_state.above)))

pub returns-in-Ds : goal.returns-in-Ds
returns-in-Ds c = let a = c.args in let b = c.requires.0 in rw (c.in-Ds.is, c.texts_changed.ensures) (texts_moved (search rules) (search rules) (search rules) (search rules) (search rules) (changed_refines a.status a.cells.now a.arena.now a.ends.now a.store.now a.text_firsts.now a.text_seconds.now a.kinds.now a.lengths.now a.firsts.now a.seconds.now a.values.now a.steps.now a.line.now a.row.now a.printer b c.requires.1 _ _ _ _ _ (defines a.after_if a.line.now) _ c.define-answer.ensures.defines.changes))

pub returns-in-If : goal.returns-in-If
returns-in-If c = let a = c.args in let b = c.requires.0 in rw (c.in-If.is, c.moved-in-If.ensures) (page_refines (λ ts s. settles (decide (printer_of a.printer) a.line.now s) s) (whole_of a.status a.cells.now a.arena.now a.ends.now a.store.now a.text_firsts.now a.text_seconds.now a.kinds.now a.lengths.now a.firsts.now a.seconds.now a.values.now a.steps.now) _ _ _ _ b.sound c.decide-outcome.ensures)
