-- The digits of a number at the end of a buffer of 11 bytes. Assumes nothing.
use Rattle.std.specs.Prelude.{◌≡◌, List, [], ℕ, suc, ◌≤◌, length, drop}
use Rattle.rules.specs.Registers.{decimal_by}

-- they stand from a place on, which has another before it
pub record DigitsAt (value at : ℕ) (digits : List ℕ) : Type 0 where
  pub are : drop at digits ≡ decimal_by (suc value) value []
  pub low : 1 ≤ at
  pub high : at ≤ 10
  pub long : length digits ≡ 11
