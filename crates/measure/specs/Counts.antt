-- Counts of cells and rows as plain numbers. Assumes nothing.
use Rattle.std.specs.Prelude.{ℕ, ℤ, pos, negsuc}
use Rattle.measure.specs.declared.Cells.{Cells}
use Rattle.measure.specs.declared.Rows.{Rows}

-- a count without a sign: none is below 0
abbrev pub nat_of : ℤ → ℕ
nat_of (pos n) = n
nat_of (negsuc n) = 0

-- the count of cells across
abbrev pub across_of : Cells → ℕ
across_of c = nat_of c.0

-- the count of rows down
abbrev pub down_of : Rows → ℕ
down_of r = nat_of r.0

-- so many cells
abbrev pub cells_across : ℕ → Cells
cells_across n = record { 0 = pos n }

-- so many rows
abbrev pub rows_down : ℕ → Rows
rows_down n = record { 0 = pos n }
