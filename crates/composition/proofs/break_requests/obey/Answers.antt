-- `composition::break_requests::obey` meets its contract. Assumes nothing.
use Rattle.std.proofs.Common.{◌≡◌, ◌&&◌, false, sym, ◌∙◌}
use Rattle.traps.specs.Table.Table.{planted_of}
use Rattle.settings.specs.Layout.Layouts.{printer_of}
use Rattle.composition.specs.PageRows.PageState.{page_state}
use Rattle.composition.proofs.page_rows.Work.{same_work}
use Rattle.composition.proofs.break_requests.Works.{starts_is, breaks_is, acts_is}
use Rattle.composition.proofs.break_requests.obey.Goals as goal
use Rattle.composition.proofs.break_requests.obey.Goals.{else-period-via-then-period+else-collected, else-period-via-else-period}

pub returns-then-starts_first : goal.returns-then-starts_first
returns-then-starts_first c =
    let a = c.args in
    let d = page_state a.layout a.page a.collected a.cells.now a.stack a.arena.now a.ends.now in
    same_work a.firsts.now a.seconds.now a.texts a.planted d _ _ a.page _ _ _ _ c.start.ensures
    (λ ts x. rw c.held_line.ensures (starts_is (printer_of a.printer) a.request a.line.now d (planted_of a.planted) ts x a.period a.name (sym c.starts_first.ensures ∙ c.if-starts_first.true)))

pub returns-then-collected : goal.returns-then-collected
returns-then-collected c =
    let a = c.args in
    let d = page_state a.layout a.page a.collected a.cells.now a.stack a.arena.now a.ends.now in
    same_work a.firsts.now a.seconds.now a.texts a.planted d _ _ a.page _ _ _ _ c.break_line.ensures
    (λ ts x. rw c.held_request.ensures (breaks_is (printer_of a.printer) a.request a.line.now d (planted_of a.planted) ts x a.period a.name (sym c.starts_first.ensures ∙ c.if-starts_first.false) (rw (c.if-period.true, c.if-collected.true))))

pub returns : goal.returns
returns c =
    let a = c.args in
    let d = page_state a.layout a.page a.collected a.cells.now a.stack a.arena.now a.ends.now in
    let e : (a.period && a.collected.there) ≡ false = elim c.else-period.branch [
      | else-period-via-then-period+else-collected w ↦ rw (w.if-period.true, w.if-collected.false)
      | else-period-via-else-period w ↦ rw w.if-period.false
    ] in
    same_work a.firsts.now a.seconds.now a.texts a.planted d _ _ a.page _ _ _ _ c.act.ensures
    (λ ts x. acts_is (printer_of a.printer) a.request a.line.now d (planted_of a.planted) ts x a.period a.name (sym c.starts_first.ensures ∙ c.if-starts_first.false) e)
