-- `formatter::work` meets its contract. Assumes nothing.
use mathlib.Core.Path.{refl}
use native.Mathlib.Omega.{arith}
use mathlib.Core.Bool.{true}
use Rattle.rules.specs.Session.{idle, work_end}
use Rattle.settings.specs.Layout.Layouts.{printer_of}
use Rattle.page.specs.declared.springs.Way.TheVariants.{Refused}
use Rattle.state.specs.WholeLaws.{page_refines, stay_refines}
use Rattle.state.specs.Statuses.{whole_of}
use Rattle.formatter.specs.StoredLines.WorkLaws.{step_end, idle_open, idle_none}
use Rattle.formatter.proofs.work.Goals as goal

pub returns-then-opening : goal.returns-then-opening
returns-then-opening c = let a = c.args in let b = c.requires in rw (c.counted.ensures, c.stay.ensures, c.number.ensures) (step_end (printer_of a.printer) (whole_of a.status a.cells.now a.arena.now a.ends.now a.store.now a.text_firsts.now a.text_seconds.now a.kinds.now a.lengths.now a.firsts.now a.seconds.now a.values.now a.steps.now) a.stored b.counted _ _ _ _ c.if-stack-eq0.true (λ s. idle (printer_of a.printer) true s.tables.opened s) (λ x. refl) (stay_refines (λ s. idle (printer_of a.printer) true s.tables.opened s) (whole_of a.status a.cells.now a.arena.now a.ends.now a.store.now a.text_firsts.now a.text_seconds.now a.kinds.now a.lengths.now a.firsts.now a.seconds.now a.values.now a.steps.now) (Refused 8) _ b.sound (omega (arith, c.if-stack-eq0.true)) b.long (λ x. idle_open (printer_of a.printer) (whole_of a.status a.cells.now a.arena.now a.ends.now a.store.now a.text_firsts.now a.text_seconds.now a.kinds.now a.lengths.now a.firsts.now a.seconds.now a.values.now a.steps.now) x c.if-opening.true)))

pub returns-then-stack-eq0 : goal.returns-then-stack-eq0
returns-then-stack-eq0 c = let a = c.args in let b = c.requires in rw (c.counted-then-stack-eq0.ensures, c.moved.ensures) (step_end (printer_of a.printer) (whole_of a.status a.cells.now a.arena.now a.ends.now a.store.now a.text_firsts.now a.text_seconds.now a.kinds.now a.lengths.now a.firsts.now a.seconds.now a.values.now a.steps.now) a.stored b.counted _ _ _ _ c.if-stack-eq0.true (λ s. work_end s.page.last s) (λ x. idle_none (printer_of a.printer) (whole_of a.status a.cells.now a.arena.now a.ends.now a.store.now a.text_firsts.now a.text_seconds.now a.kinds.now a.lengths.now a.firsts.now a.seconds.now a.values.now a.steps.now) x c.if-opening.false) (page_refines (λ ts s. work_end s.page.last s) (whole_of a.status a.cells.now a.arena.now a.ends.now a.store.now a.text_firsts.now a.text_seconds.now a.kinds.now a.lengths.now a.firsts.now a.seconds.now a.values.now a.steps.now) _ _ _ _ b.sound c.work_end-outcome.ensures))
