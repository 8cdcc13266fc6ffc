-- The pitch of a printer: the units of its cell and of its row. Assumes nothing.
use Rattle.std.specs.Prelude.{◌≡◌, refl, ℕ, ◌%◌, ◌<◌}
use Rattle.std.proofs.Common.{arith}
use Rattle.measure.specs.declared.Pitch.{Pitch}

-- "A cell is 24 units, a row 40"
abbrev pub ten_pitch : Pitch
ten_pitch = record { cell = 24; row = 40 }

-- "Basic units are 1/240 inch": an inch is a whole number of the size
abbrev pub Divides : ℕ → Type 0
Divides size = 240 % size ≡ 0

pub record Whole (p : Pitch) : Type 0 where
  pub cells : Divides p.cell
  pub rows : Divides p.row

-- Sanity.
pub ten_whole : Whole ten_pitch
ten_whole = record { cells = refl; rows = refl }

-- the cell and the row of a printer have units
pub record Sized (p : Pitch) : Type 0 where
  pub cell : 0 < p.cell
  pub row : 0 < p.row

pub ten_sized : Sized ten_pitch
ten_sized = record { cell = omega arith; row = omega arith }
