-- What the writers of cells and rows do to an array that is lent. Assumes nothing.
use Rattle.std.specs.Prelude.{◌≡◌, Bool, true, false, List, ℕ, ◌+◌, length}
use Rattle.std.proofs.lemmas.List.Edits.{sets}
use Rattle.rules.specs.Bytes.{space}

-- these bytes stand in the array from a place on, and all others as before; the answer is the place behind them
pub record Written (entry : List ℕ) (at : ℕ) (bytes exit : List ℕ) (answer : ℕ) : Type 0 where
  pub is : exit ≡ sets entry at bytes
  pub end : answer ≡ at + length bytes
  pub long : length exit ≡ length entry

-- "Output is .. text": a byte as printed, where it is no mark
abbrev pub shown_if : (isBlank : Bool) → ℕ → ℕ
shown_if true b = space
shown_if false b = b
