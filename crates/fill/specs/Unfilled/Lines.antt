-- A line as it is written into the array of a row. Assumes nothing.
use Rattle.std.specs.Prelude.{◌≡◌, Bool, true, false, ◌||◌, List, ◌++◌, ℕ, ◌+◌, ◌-◌, ◌≤◌, ◌<◌, eqb, length, get_or, replicate}
use Rattle.measure.specs.declared.Cells.{Cells}
use Rattle.rules.specs.Bytes.{space, mark, fixed_blank, gap_start}
use Rattle.rules.specs.Filling.{Word, spread, trimmed, printed, spelled, span, row, left}
use Rattle.fill.specs.Words.Parts.{bytes_between}
use Rattle.measure.specs.Counts.{across_of}

-- a cell that is printed as a blank
abbrev pub is_blank_cell : ℕ → Bool
is_blank_cell b = eqb b space || eqb b gap_start

-- "blanks at a line's end are not written": the cells up to here give the row, however they are spread, and the last of them is no blank
pub record CellsEnd (cells : List ℕ) (count end : ℕ) : Type 0 where
  pub high : end ≤ count
  pub is : (n each few : ℕ) → trimmed (replicate n space ++ spread each few (bytes_between cells 0 count)) ≡ trimmed (replicate n space ++ spread each few (bytes_between cells 0 end))
  pub last : 0 < end → is_blank_cell (get_or cells (end - 1) 0) ≡ false

-- a byte of which nothing or a blank is printed
abbrev pub is_blank_byte : ℕ → Bool
is_blank_byte b = eqb b space || (eqb b fixed_blank || eqb b mark)

-- the same for a line that is written as it stands
pub record TextEnd (line : List ℕ) (at to end : ℕ) : Type 0 where
  pub low : at ≤ end
  pub high : end ≤ to
  pub is : (n : ℕ) → trimmed (replicate n space ++ printed (bytes_between line at to)) ≡ trimmed (replicate n space ++ printed (bytes_between line at end))
  pub last : at < end → is_blank_byte (get_or line (end - 1) 0) ≡ false

-- the bytes have a place in the row
pub record RowRoom (row : List ℕ) (at : ℕ) (bytes : List ℕ) : Type 0 where
  pub long : length row ≡ 872
  pub fits : at + length bytes ≤ 872

-- "in and the ti total 0 to 239, po 0 to 120": a row has a place for them, for 512 cells and for the newline
pub record Margins (row : List ℕ) (offset indent : Cells) : Type 0 where
  pub long : length row ≡ 872
  pub narrow : across_of offset + across_of indent ≤ 359

-- one line to be centred, or none
abbrev pub one_if : Bool → ℕ
one_if true = 1
one_if false = 0

-- a line of nf or ce, as a row
abbrev pub standing_of : (offset indent room : ℕ) → (centred : Bool) → List Word → List ℕ
standing_of o i r c ws = row (o + i + left (one_if c) (r - span ws)) (printed (spelled ws))
