-- `composition::break_requests::act` meets its contract. Assumes nothing.
use mathlib.Core.Path.{ap, ◌∙◌}
use mathlib.Core.List.{List}
use Prim.Native.Nat.{ℕ}
use Rattle.traps.specs.Table.Table.{planted_of}
use Rattle.settings.specs.Layout.Layouts.{printer_of}
use Rattle.line_syntax.specs.Lines.Places.{argument_is}
use Rattle.composition.specs.PageRows.PageState.{page_state, state_at}
use Rattle.composition.proofs.page_rows.Work.{same_work}
use Rattle.composition.specs.BreakRequests.Acting.{act_by, act_by_lem}
use Rattle.composition.proofs.break_requests.act.Goals as goal

pub returns : goal.returns
returns c =
    let a = c.args in
    let d = page_state a.layout a.page a.collected a.cells.now a.stack a.arena.now a.ends.now in
    let e = c.argument-argument.ensures ∙ argument_is 0 c.arguments-count.ensures in
    same_work a.firsts.now a.seconds.now a.texts a.planted d _ _ a.page _ _ _ _ c.act_on.ensures
    (λ ts x. ap (λ (l : List ℕ). act_by (printer_of a.printer) a.request l (state_at ts (planted_of a.planted) d x)) e ∙ act_by_lem (printer_of a.printer) a.request a.line.now _)
