-- `fill::rows::put_row` meets its contract. Assumes nothing.
use borrow.Author.Rules.{rules}
use mathlib.Core.Path.{◌∙◌}
use native.Mathlib.Omega.{arith}
use lib.ListN.{length, replicate}
use Prim.Native.Nat.{◌≤◌, ◌<◌}
use lib.Seq.{length-sets}
use Rattle.rules.specs.Filling.{spread}
use Rattle.fill.specs.Words.Parts.{bytes_between}
use Rattle.fill.proofs.unfilled.Rows.{row_done, row_alone, cells_none, cells_row, cells_short}
use Rattle.fill.proofs.rows.put_row.Goals as goal
use Rattle.fill.proofs.rows.put_row.Goals.{After-spread_cells-n, Else-end-eq0}

-- the cells up to the last that is no blank are no longer
short : (c : Else-end-eq0) → let a = c.args in
    length (spread a.each a.few (bytes_between a.cells.now 0 c.cells_end-end.result)) ≤ length (spread a.each a.few (bytes_between a.cells.now 0 a.length))
short c = let a = c.args in cells_short a.cells.now a.length c.cells_end-end.result (omega arith) c.cells_end-end.ensures a.blanks a.each a.few (omega arith)

-- the newline has a place
below : (c : After-spread_cells-n) → c.spread_cells-n.result < 872
below c = omega (arith, c.spread_cells-n.ensures.end, short (goal.at.After-spread_cells-n c).Else-end-eq0, c.requires.1.fits)

pub returns-then-end-eq0 : goal.returns-then-end-eq0
returns-then-end-eq0 c =
    let a = c.args in
    record { written = row_alone a.row.now _ (cells_none a.cells.now a.length c.cells_end-end.result (omega arith) c.cells_end-end.ensures a.blanks a.each a.few c.if-end-eq0.true); upper_bound = search rules }

pub spread_cells-n-requires : goal.spread_cells-n-requires
spread_cells-n-requires c =
    let a = c.args in (
      record { long = c.requires.0.long; ordered = omega arith; few = omega (arith, c.requires.0, c.cells_end-end.ensures.high) },
      record { long = rw c.put_run.ensures (length-sets a.row.now 0 (replicate a.blanks 32) ∙ c.requires.1.long); fits = omega (arith, short (goal.at.spread_cells-n-requires c).Else-end-eq0, c.requires.1.fits) },
    )

pub bounds-row-n : goal.bounds-row-n
bounds-row-n c = below (goal.at.bounds-row-n c).After-spread_cells-n

pub overflow_add-result : goal.overflow_add-result
overflow_add-result c = omega (arith, below (goal.at.overflow_add-result c).After-spread_cells-n)

pub returns : goal.returns
returns c =
    let a = c.args in record {
      written = row_done a.row.now _ _ _ _ a.blanks _ c.put_run.ensures c.spread_cells-n.ensures
          (cells_row a.cells.now a.length c.cells_end-end.result (omega (arith, c.requires.0)) c.cells_end-end.ensures a.blanks a.each a.few (omega (arith, c.if-end-eq0.false)));
      upper_bound = omega (arith, below (goal.at.returns c).After-spread_cells-n);
    }
