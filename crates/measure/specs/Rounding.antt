-- Rounding of units to counts of any size.
use Rattle.std.specs.Prelude.{ℕ, suc, ◌+◌, ◌*◌, ◌/◌, ◌%◌, cond, eqb, ltb, ℤ, pos, negsuc, neg_ℤ, ◌*ℤ◌}
use Rattle.measure.specs.declared.Cells.{Cells}
use Rattle.measure.specs.declared.Rows.{Rows}
use Rattle.measure.specs.declared.Pitch.{Pitch}

-- "round to the nearest", for units without a sign: half a size or more left over counts as one. Of size 0 there are 0
unfoldable pub half_up : ℕ → ℕ → ℕ
half_up size n = cond (eqb size 0) 0 (cond (ltb (2 * (n % size)) size) (n / size) (n / size + 1))

-- "Results .. round to the nearest cell or row, halves away from zero": the same on both sides of zero
abbrev pub nearest_of : ℕ → ℤ → ℤ
nearest_of size (pos n) = pos (half_up size n)
nearest_of size (negsuc n) = neg_ℤ (pos (half_up size (suc n)))

-- "Counts of cells across and counts of rows down are two measures": the cells of a number of units, and its rows
abbrev pub cells_of : Pitch → ℤ → Cells
cells_of p z = record { 0 = nearest_of p.cell z }

abbrev pub rows_of : Pitch → ℤ → Rows
rows_of p z = record { 0 = nearest_of p.row z }

-- the way back, as for the registers: ".l .i .p, all but % in units"
abbrev pub units_of_cells : Pitch → Cells → ℤ
units_of_cells p c = c.0 *ℤ pos p.cell

abbrev pub units_of_rows : Pitch → Rows → ℤ
units_of_rows p r = r.0 *ℤ pos p.row
