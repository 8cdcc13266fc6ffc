-- `composition::page_rows::start` meets its contract. Assumes nothing.
use mathlib.Core.Path.{refl}
use native.Mathlib.Omega.{arith}
use Rattle.rules.specs.Rows as rule
use Rattle.composition.specs.PageRows.PageState.{page_state}
use Rattle.composition.proofs.page_rows.Work.{moves}
use Rattle.composition.proofs.page_rows.start.Goals as goal

pub returns : goal.returns
returns c =
    let a = c.args in let b = c.requires.0 in
    let d = page_state a.layout a.page a.collected a.cells.now a.stack a.arena.now a.ends.now in
    rw c.lead_to.ensures
    (moves a.firsts.now a.seconds.now a.texts a.planted d _ _ rule.start_page a.collected a.held a.bytes.now _ _ _ _ _ _ c.start_page-landed.ensures (record { is = refl; end = refl; long = refl }) (omega arith) b.long b.sound (λ ts x. refl))
