-- `formatter::held_items::take_item` meets its contract. Assumes nothing.
use mathlib.Core.Path.{sym, ap, ◌∙◌}
use native.Mathlib.Omega.{arith}
use Rattle.settings.specs.Layout.Layouts.{printer_of}
use Rattle.input_stack.specs.declared.stack.Stack.{Stack}
use Rattle.input_stack.specs.Stack.ItemLaws.{top_good}
use Rattle.page.specs.Springs.Held.{is_text}
use Rattle.state.specs.declared.Status.{Status}
use Rattle.state.specs.Whole.{texts_in}
use Rattle.state.specs.Statuses.{whole_of}
use Rattle.state.specs.Steps.{with_status_stack}
use Rattle.formatter.specs.StoredLines.WorkLaws.{sound_below, step_item, good_plain, quiet_closed}
use Rattle.formatter.proofs.held_items.take_item.Goals as goal

pub resume-step-requires : goal.resume-step-requires
resume-step-requires c = let a = c.args in let t = c.requires in let b = t.ready in let f = c.with_stack-after.ensures ∙ ap (λ (k : Stack). with_status_stack k a.status) c.pop.ensures in rw f (record { sound = sound_below (whole_of a.status a.cells.now a.arena.now a.ends.now a.store.now a.text_firsts.now a.text_seconds.now a.kinds.now a.lengths.now a.firsts.now a.seconds.now a.values.now a.steps.now) b.sound; items = omega (arith, b.sound.page_state.columns.few, t.deep); short = omega (arith, c.load-size.ensures.long); long = b.long; printer = b.printer }, record { plain = good_plain (texts_in (whole_of a.status a.cells.now a.arena.now a.ends.now a.store.now a.text_firsts.now a.text_seconds.now a.kinds.now a.lengths.now a.firsts.now a.seconds.now a.values.now a.steps.now).texts) a.what _ _ (top_good (texts_in (whole_of a.status a.cells.now a.arena.now a.ends.now a.store.now a.text_firsts.now a.text_seconds.now a.kinds.now a.lengths.now a.firsts.now a.seconds.now a.values.now a.steps.now).texts) a.status.stack a.arena.now a.ends.now a.what t.deep t.top (record { columns = b.sound.page_state.columns; good = b.sound.good })) t.other; long = c.load-size.ensures.long; few = c.load-size.ensures.fits; closed = quiet_closed a.status.opening.there (is_text a.what) (λ e. sym (ap is_text t.top) ∙ b.quiet e t.deep) t.other })

pub returns : goal.returns
returns c = let a = c.args in let t = c.requires in let b = t.ready in let f = c.with_stack-after.ensures ∙ ap (λ (k : Stack). with_status_stack k a.status) c.pop.ensures in rw c.counted.ensures (step_item (printer_of a.printer) (whole_of a.status a.cells.now a.arena.now a.ends.now a.store.now a.text_firsts.now a.text_seconds.now a.kinds.now a.lengths.now a.firsts.now a.seconds.now a.values.now a.steps.now) a.stored b.counted _ _ _ _ a.what _ (good_plain (texts_in (whole_of a.status a.cells.now a.arena.now a.ends.now a.store.now a.text_firsts.now a.text_seconds.now a.kinds.now a.lengths.now a.firsts.now a.seconds.now a.values.now a.steps.now).texts) a.what _ _ (top_good (texts_in (whole_of a.status a.cells.now a.arena.now a.ends.now a.store.now a.text_firsts.now a.text_seconds.now a.kinds.now a.lengths.now a.firsts.now a.seconds.now a.values.now a.steps.now).texts) a.status.stack a.arena.now a.ends.now a.what t.deep t.top (record { columns = b.sound.page_state.columns; good = b.sound.good })) t.other) t.deep t.top c.load-size.ensures.bytes _ (ap (λ (v : Status). (whole_of v a.cells.now a.arena.now a.ends.now a.store.now a.text_firsts.now a.text_seconds.now a.kinds.now a.lengths.now a.firsts.now a.seconds.now a.values.now a.steps.now)) f) c.resume-step.ensures)
