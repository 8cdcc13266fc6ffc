-- `formatter::stored_text::read_text` meets its contract. Assumes nothing.
use Rattle.std.specs.Prelude.{Option}
use mathlib.Core.Path.{◌≡◌, refl, ap, ◌∙◌, subst}
use native.Mathlib.Omega.{arith}
use mathlib.Core.Bool.{true}
use mathlib.Core.List.{[], ◌∷◌}
use Rattle.rules.specs.Texts.{Text}
use Rattle.rules.specs.Rows.{refuses}
use Rattle.scan.specs.Arguments.Around.{Arguments}
use Rattle.texts.specs.Lines.Lines.{next_line, TopInside}
use Rattle.settings.specs.Layout.Layouts.{printer_of}
use Rattle.input_stack.specs.declared.frames.What.TheVariants as what
use Rattle.input_stack.specs.declared.stack.Stack.{Stack}
use Rattle.input_stack.specs.Stack.Frames.{popped, placed_at}
use Rattle.input_stack.specs.Stack.Items.{unread}
use Rattle.input_stack.specs.Stack.ItemLaws.{top_good}
use Rattle.page.specs.declared.springs.Way.TheVariants.{Refused}
use Rattle.page.specs.Springs.Held.{is_text}
use Rattle.state.specs.Whole.{texts_in}
use Rattle.state.specs.WholeLaws.{stay_refines}
use Rattle.state.specs.Statuses.{whole_of}
use Rattle.state.specs.Steps.{with_status_stack}
use Rattle.formatter.specs.StoredLines.WorkLaws.{sound_below, sound_placed, topped_placed, given_placed, step_leave, step_line, step_past, leave_refines, text_few}
use Rattle.formatter.proofs.stored_text.read_text.Goals as goal

pub deal_stored-step-requires : goal.deal_stored-step-requires
deal_stored-step-requires c = let a = c.args in let t = c.requires in let b = t.ready in let g = top_good (texts_in (whole_of a.status a.cells.now a.arena.now a.ends.now a.store.now a.text_firsts.now a.text_seconds.now a.kinds.now a.lengths.now a.firsts.now a.seconds.now a.values.now a.steps.now).texts) a.status.stack a.arena.now a.ends.now (what.Reading a.name a.place a.count) t.deep t.top (record { columns = b.sound.page_state.columns; good = b.sound.good }) in let u = subst (λ (o : Option Text). (unread o a.place ≡ next_line [] a.store.now c.in-Some.top ∷ unread o c.in-Some.next) × TopInside [] a.store.now c.in-Some.top) c.look_up-found.ensures.is (c.in-Some.ensures a.name) in let n = c.in-Some.next in rw c.set_place.ensures (record { sound = sound_placed (whole_of a.status a.cells.now a.arena.now a.ends.now a.store.now a.text_firsts.now a.text_seconds.now a.kinds.now a.lengths.now a.firsts.now a.seconds.now a.values.now a.steps.now) b.sound n t.deep; items = text_few a.status.stack a.ends.now true b.fits (ap is_text t.top) refl; short = omega arith; long = b.long; printer = b.printer }, u.1, topped_placed (whole_of a.status a.cells.now a.arena.now a.ends.now a.store.now a.text_firsts.now a.text_seconds.now a.kinds.now a.lengths.now a.firsts.now a.seconds.now a.values.now a.steps.now) b.sound n t.deep, given_placed (whole_of a.status a.cells.now a.arena.now a.ends.now a.store.now a.text_firsts.now a.text_seconds.now a.kinds.now a.lengths.now a.firsts.now a.seconds.now a.values.now a.steps.now) b.sound n t.deep (λ v es. Arguments v es a.count) g.0)

pub returns-then-stored-lt10000 : goal.returns-then-stored-lt10000
returns-then-stored-lt10000 c = let a = c.args in let t = c.requires in let b = t.ready in let u = subst (λ (o : Option Text). (unread o a.place ≡ next_line [] a.store.now c.in-Some.top ∷ unread o c.in-Some.next) × TopInside [] a.store.now c.in-Some.top) c.look_up-found.ensures.is (c.in-Some.ensures a.name) in let n = c.in-Some.next in rw c.counted.ensures (step_line (printer_of a.printer) (whole_of a.status a.cells.now a.arena.now a.ends.now a.store.now a.text_firsts.now a.text_seconds.now a.kinds.now a.lengths.now a.firsts.now a.seconds.now a.values.now a.steps.now) a.stored b.counted _ _ _ _ a.name a.place a.count t.deep t.top b.sound n (next_line [] a.store.now c.in-Some.top) u.0 _ (omega arith) c.if-stored-lt10000.true (rw c.set_place.ensures at c.deal_stored-step.ensures))

pub returns-else-stored-lt10000 : goal.returns-else-stored-lt10000
returns-else-stored-lt10000 c = let a = c.args in let t = c.requires in let b = t.ready in let u = subst (λ (o : Option Text). (unread o a.place ≡ next_line [] a.store.now c.in-Some.top ∷ unread o c.in-Some.next) × TopInside [] a.store.now c.in-Some.top) c.look_up-found.ensures.is (c.in-Some.ensures a.name) in let n = c.in-Some.next in rw (c.counted-in-Some.ensures, c.stay.ensures, c.number.ensures, c.set_place.ensures) (step_past (printer_of a.printer) (whole_of a.status a.cells.now a.arena.now a.ends.now a.store.now a.text_firsts.now a.text_seconds.now a.kinds.now a.lengths.now a.firsts.now a.seconds.now a.values.now a.steps.now) a.stored b.counted _ _ _ _ a.name a.place a.count t.deep t.top b.sound n (next_line [] a.store.now c.in-Some.top) u.0 c.if-stored-lt10000.false (stay_refines (λ s. refuses 10 s) (whole_of a.status a.cells.now a.arena.now (placed_at a.status.stack a.ends.now n) a.store.now a.text_firsts.now a.text_seconds.now a.kinds.now a.lengths.now a.firsts.now a.seconds.now a.values.now a.steps.now) (Refused 10) _ (sound_placed (whole_of a.status a.cells.now a.arena.now a.ends.now a.store.now a.text_firsts.now a.text_seconds.now a.kinds.now a.lengths.now a.firsts.now a.seconds.now a.values.now a.steps.now) b.sound n t.deep) (text_few a.status.stack a.ends.now true b.fits (ap is_text t.top) refl) b.long (λ x. refl)))

pub returns-in-None : goal.returns-in-None
returns-in-None c = let a = c.args in let t = c.requires in let b = t.ready in let f = c.with_stack.ensures ∙ ap (λ (k : Stack). with_status_stack k a.status) c.pop.ensures in let u = subst (λ (o : Option Text). unread o a.place ≡ []) c.look_up-found.ensures.is (c.in-None.ensures a.name) in rw (c.counted-in-None.ensures, c.leave.ensures, f) (step_leave (printer_of a.printer) (whole_of a.status a.cells.now a.arena.now a.ends.now a.store.now a.text_firsts.now a.text_seconds.now a.kinds.now a.lengths.now a.firsts.now a.seconds.now a.values.now a.steps.now) a.stored b.counted _ _ _ _ a.name a.place a.count t.deep t.top u (leave_refines (whole_of (with_status_stack (popped a.status.stack) a.status) a.cells.now a.arena.now a.ends.now a.store.now a.text_firsts.now a.text_seconds.now a.kinds.now a.lengths.now a.firsts.now a.seconds.now a.values.now a.steps.now) _ (sound_below (whole_of a.status a.cells.now a.arena.now a.ends.now a.store.now a.text_firsts.now a.text_seconds.now a.kinds.now a.lengths.now a.firsts.now a.seconds.now a.values.now a.steps.now) b.sound) (omega (arith, b.sound.page_state.columns.few, t.deep)) b.long))
