-- `composition::break_requests::space` meets its contract. Assumes nothing.
use Rattle.settings.specs.Layout.Layouts.{printer_of}
use Rattle.composition.specs.PageRows.PageState.{page_state}
use Rattle.composition.proofs.page_rows.Work.{same_work}
use Rattle.composition.proofs.break_requests.Works.{spaced_by}
use Rattle.composition.proofs.break_requests.space.Goals as goal

pub returns-in-Ok : goal.returns-in-Ok
returns-in-Ok c =
    let a = c.args in
    let d = page_state a.layout a.page a.collected a.cells.now a.stack a.arena.now a.ends.now in
    let e = rw c.in-Ok.is at c.spacing.ensures in
    same_work a.firsts.now a.seconds.now a.texts a.planted d _ _ a.page _ _ _ _ c.skip.ensures
    (λ ts x. spaced_by (printer_of a.printer) a.argument.now _ _ e)
