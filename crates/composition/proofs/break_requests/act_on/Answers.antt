-- `composition::break_requests::act_on` meets its contract. Assumes nothing.
use mathlib.Core.Path.{refl}
use Rattle.rules.specs.Acts.{set_line}
use Rattle.settings.specs.Layout.Layouts.{printer_of}
use Rattle.composition.specs.PageRows.PageState.{page_state}
use Rattle.composition.proofs.page_rows.Settling.{settle_works}
use Rattle.composition.proofs.page_rows.Work.{same_work}
use Rattle.composition.proofs.break_requests.Works.{page_above}
use Rattle.composition.proofs.break_requests.act_on.Goals as goal

pub returns-in-Sp : goal.returns-in-Sp
returns-in-Sp c = rw c.in-Sp.is c.space.ensures

pub returns-in-Bp : goal.returns-in-Bp
returns-in-Bp c =
    let a = c.args in
    let d = page_state a.layout a.page a.collected a.cells.now a.stack a.arena.now a.ends.now in
    rw c.in-Bp.is
    (same_work a.firsts.now a.seconds.now a.texts a.planted d _ _ a.page _ _ _ _ c.eject.ensures (λ ts x. refl))

pub returns-in-Sets : goal.returns-in-Sets
returns-in-Sets c =
    let a = c.args in let b = c.requires.0 in
    let d = page_state a.layout a.page a.collected a.cells.now a.stack a.arena.now a.ends.now in let h = c.set_line-new.ensures in
    rw (c.in-Sets.is, c.settle.ensures)
    (settle_works a.firsts.now a.seconds.now a.texts a.planted d a.row.now b.sound b.items b.long (λ x. set_line (printer_of a.printer) c.in-Sets.setting a.argument.now x.layout) c.set_line-new.result (λ ts x. h.is) h.limits (page_above a.printer c.in-Sets.setting a.planted d a.argument.now c.set_line-new.result b.sound h))
