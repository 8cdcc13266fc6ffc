-- `fill::rows::full_row` meets its contract. Assumes nothing.
use mathlib.Core.Path.{◌∙◌, ap}
use native.Mathlib.Omega.{arith}
use Prim.Native.Nat.{ℕ, ◌+◌, ◌≤◌}
use lib.ListN.{length}
use Rattle.rules.specs.Filling.{row, adjusted}
use Rattle.measure.specs.Counts.{across_of}
use Rattle.fill.specs.Collected.Filled.{collected_line}
use Rattle.fill.proofs.unfilled.Rows.{adjusted_short, adjusted_same, written_as}
use Rattle.fill.proofs.rows.full_row.Goals as goal

pub put_row-requires : goal.put_row-requires
put_row-requires c =
    let a = c.args in
    let k : a.length ≤ length a.cells.now = omega (arith, c.requires.0) in (
      record { long = c.requires.0.long; ordered = omega arith; few = c.requires.0.few },
      record { long = c.requires.1.long; fits = omega (arith, c.count-2.ensures, c.count.ensures, c.requires.1.narrow, ap length c.share_of-share.ensures, adjusted_short a.adjusting c.count-3.result a.cells.now a.length k c.requires.0.few (omega (arith, c.count-3.ensures, c.requires.0.narrow))) },
    )

pub returns : goal.returns
returns c =
    let a = c.args in
    let s = c.share_of-share.ensures ∙ ap (λ (r : ℕ). adjusted a.adjusting (collected_line 0 r a.cells.now a.length 1)) c.count-3.ensures ∙ adjusted_same a.adjusting 0 (across_of a.indent) (across_of a.room) a.cells.now a.length 1 1 in
    record { written = written_as (λ i. row (c.count.ensures i + c.count-2.ensures i) (s i)) c.put_row.ensures.written; upper_bound = c.put_row.ensures.upper_bound }
