-- Bytes that wait are written to the room that is left. Assumes nothing.
use Rattle.std.specs.Prelude.{◌≡◌, List, ℕ, ◌-◌, ◌≤◌, min, length, drop}
use Rattle.std.proofs.Math.Seq.{paste}

-- a part of a row, and a place in the output
pub record Writes (row : List ℕ) (at end : ℕ) (out : List ℕ) (from : ℕ) : Type 0 where
  pub long : length row ≡ 872
  pub order : at ≤ end
  pub inside : end ≤ 872
  pub place : from ≤ length out

-- As many of the waiting bytes as fit are written from the place on; all else stays.
pub record WrittenTo (row : List ℕ) (at end : ℕ) (out : List ℕ) (from : ℕ) (r : ℕ) (out' : List ℕ) : Type 0 where
  pub count : r ≡ min (end - at) (length out - from)
  pub is : out' ≡ paste out from (drop at row) r
