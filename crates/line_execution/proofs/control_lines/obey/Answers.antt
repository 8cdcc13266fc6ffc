-- `line_execution::control_lines::obey` meets its contract. Assumes nothing.
use Rattle.std.specs.Prelude.{Some}
use mathlib.Core.Path.{◌∙◌, ap, subst}
use Rattle.rules.specs.Texts.{text_of}
use Rattle.rules.specs.Rows.{goes}
use Rattle.rules.specs.ControlLines.{meaning_of, obey}
use Rattle.settings.specs.Layout.Layouts.{printer_of}
use Rattle.line_syntax.specs.Lines.Meanings.{MeaningIs}
use Rattle.composition.specs.TextCalls.Calls.{called_text}
use Rattle.composition.specs.TextCalls.CallLaws.{text_obeyed}
use Rattle.composition.proofs.text_calls.Calls.{known}
use Rattle.state.specs.Whole.{texts_in, state_in}
use Rattle.state.specs.WholeLaws.{page_refines, refines_as}
use Rattle.state.specs.Statuses.{whole_of, page_ready}
use borrow.Author.Rules.{rules}
use Rattle.line_execution.proofs.control_lines.obey.Goals as goal

pub call-outcome-requires : goal.call-outcome-requires
call-outcome-requires c = let a = c.args in let b = c.requires.0 in let k = subst (MeaningIs (texts_in (whole_of a.status a.cells.now a.arena.now a.ends.now a.store.now a.text_firsts.now a.text_seconds.now a.kinds.now a.lengths.now a.firsts.now a.seconds.now a.values.now a.steps.now).texts) a.name) (c.in-Some.is ∙ ap Some c.in-Calls.is) c.requires.2 in (page_ready a.status a.cells.now a.arena.now a.ends.now a.store.now a.text_firsts.now a.text_seconds.now a.kinds.now a.lengths.now a.firsts.now a.seconds.now a.values.now a.steps.now a.line.now a.row.now a.printer b, search rules, known a.name a.store.now a.text_firsts.now a.text_seconds.now a.kinds.now a.lengths.now a.status.texts k.text b.sound.lies k.is)

pub returns-in-Calls : goal.returns-in-Calls
returns-in-Calls c = let a = c.args in let b = c.requires.0 in let k = subst (MeaningIs (texts_in (whole_of a.status a.cells.now a.arena.now a.ends.now a.store.now a.text_firsts.now a.text_seconds.now a.kinds.now a.lengths.now a.firsts.now a.seconds.now a.values.now a.steps.now).texts) a.name) (c.in-Some.is ∙ ap Some c.in-Calls.is) c.requires.2 in rw c.moved.ensures (refines_as (λ s. goes (called_text (text_of a.name (texts_in (whole_of a.status a.cells.now a.arena.now a.ends.now a.store.now a.text_firsts.now a.text_seconds.now a.kinds.now a.lengths.now a.firsts.now a.seconds.now a.values.now a.steps.now).texts)) a.line.now s)) (λ s. obey (printer_of a.printer) (meaning_of a.name s) a.after_if a.period a.name a.line.now s) (whole_of a.status a.cells.now a.arena.now a.ends.now a.store.now a.text_firsts.now a.text_seconds.now a.kinds.now a.lengths.now a.firsts.now a.seconds.now a.values.now a.steps.now) _ _ _ _ (λ x. text_obeyed (printer_of a.printer) a.after_if a.period a.name a.line.now (state_in (whole_of a.status a.cells.now a.arena.now a.ends.now a.store.now a.text_firsts.now a.text_seconds.now a.kinds.now a.lengths.now a.firsts.now a.seconds.now a.values.now a.steps.now) x) (texts_in (whole_of a.status a.cells.now a.arena.now a.ends.now a.store.now a.text_firsts.now a.text_seconds.now a.kinds.now a.lengths.now a.firsts.now a.seconds.now a.values.now a.steps.now).texts) k.text k.is) (page_refines (λ ts s. goes (called_text (text_of a.name ts) a.line.now s)) (whole_of a.status a.cells.now a.arena.now a.ends.now a.store.now a.text_firsts.now a.text_seconds.now a.kinds.now a.lengths.now a.firsts.now a.seconds.now a.values.now a.steps.now) _ _ _ _ b.sound c.call-outcome.ensures))
