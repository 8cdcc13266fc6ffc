use native.Mathlib.Omega.{arith}
use mathlib.Core.Path.{sym, ap}
use mathlib.Core.List.{[]}
use Rattle.rules.specs.ControlLines.{deal}
use Rattle.settings.specs.Layout.Layouts.{printer_of}
use Rattle.state.specs.Whole.{state_in}
use Rattle.state.specs.Statuses.{whole_of}
use Rattle.record.specs.View.{sourced}
use Rattle.record.specs.Turns.{core_in}
use Rattle.record.proofs.Turns.{line_dealt}
use Rattle.call_loop.proofs.source_input.deal_line.Goals as goal

pub returns : goal.returns
returns c =
    let a = c.args in
    let q = (whole_of a.status a.cells.now a.arena.now a.ends.now a.store.now a.text_firsts.now a.text_seconds.now a.kinds.now a.lengths.now a.firsts.now a.seconds.now a.values.now a.steps.now) in
    let p = c.ten_to_the_inch in
    let r = c.deal-step.result in
    let e = c.turn_after.ensures in (
      (λ g k. line_dealt _ r.status a.source r.way r.written (core_in c.turn_after.result) (ap core_in e) g _ _ _ _ _ _ _ _ _ _ _ _ _ k
          (λ s. deal (printer_of p.result) [] a.line.now s) q a.line.now a.row.now
          (ap (λ v. deal v [] a.line.now (state_in q (sourced a.source g))) (sym p.ensures.is)) c.requires c.deal-step.ensures),
      ap (λ t. t.stop) e,
      ap (λ t. t.taken) e,
    )
