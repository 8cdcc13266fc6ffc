-- `fill::collected::place_others` meets its contract. Assumes nothing.
use native.Mathlib.Omega.{arith}
use Rattle.fill.proofs.collected.Placing.{placed_others}
use Rattle.fill.proofs.collected.place_others.Goals as goal

pub returns : goal.returns
returns c =
    let a = c.args in
    let s = c.skip_spaces-from in
    placed_others a.line.now a.at a.to s.result _ _ _ _ _ (omega (arith, s.ensures.lower_bound)) s.ensures.value (rw c.as_cells-gap.ensures at c.place.ensures)
