-- `fill::rows::broken_row` meets its contract. Assumes nothing.
use native.Mathlib.Omega.{arith}
use mathlib.Core.Path.{ap}
use mathlib.Core.Bool.{false}
use Prim.Native.Nat.{◌+◌}
use lib.ListN.{length}
use Rattle.rules.specs.Filling.{row}
use Rattle.fill.proofs.unfilled.Spreading.{share_off}
use Rattle.fill.proofs.unfilled.Rows.{adjusted_short, written_as}
use Rattle.fill.proofs.rows.broken_row.Goals as goal

pub put_row-requires : goal.put_row-requires
put_row-requires c =
    let a = c.args in
    (c.requires.0, record { long = c.requires.1.long; fits = omega (arith, c.count-2.ensures, c.count.ensures, c.requires.1.narrow, ap length (share_off a.cells.now a.length 0 (omega (arith, c.requires.0))), adjusted_short false 0 a.cells.now a.length (omega (arith, c.requires.0)) (omega (arith, c.requires.0)) (omega arith)) })

pub returns : goal.returns
returns c =
    let a = c.args in
    record { written = written_as (λ i. row (c.count.ensures i + c.count-2.ensures i) (share_off a.cells.now a.length 0 (omega (arith, c.requires.0)) i)) c.put_row.ensures.written; upper_bound = c.put_row.ensures.upper_bound }
