use mathlib.Core.Path.{ap}
use Rattle.settings.specs.Layout.Layouts.{printer_of}
use Rattle.state.specs.Statuses.{whole_of}
use Rattle.record.specs.Turns.{core_in}
use Rattle.record.proofs.Turns.{item_worked}
use Rattle.call_loop.proofs.item_work.work.Goals as goal

pub returns : goal.returns
returns c =
    let a = c.args in
    let h = c.requires in
    let p = c.ten_to_the_inch in
    let r = c.work-worked.result in
    let e = c.turn_after.ensures in (
      (λ g k. item_worked r.status a.source r.way r.written r.stored (core_in c.turn_after.result) (ap core_in e) g _ _ _ _ _ _ _ _ _ _ _ _ _ k
          (printer_of p.result) p.ensures.is (whole_of a.status a.cells.now a.arena.now a.ends.now a.store.now a.text_firsts.now a.text_seconds.now a.kinds.now a.lengths.now a.firsts.now a.seconds.now a.values.now a.steps.now) h.short h.numbered h.ready c.work-worked.ensures),
      ap (λ t. t.stop) e,
      ap (λ t. t.taken) e,
    )
