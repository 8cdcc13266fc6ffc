-- Parts of a line that is lent in an array of 512 bytes. Assumes nothing.
use Rattle.std.specs.Prelude.{◌≡◌, List, ℕ, ◌-◌, ◌≤◌, length, take, drop}

-- the bytes from a place up to another
unfoldable pub bytes_between : List ℕ → (at to : ℕ) → List ℕ
bytes_between l at to = take (to - at) (drop at l)

-- a line of 512 bytes, and two places of it
pub record Places (line : List ℕ) (at to : ℕ) : Type 0 where
  pub long : length line ≡ 512
  pub ordered : at ≤ to
  pub few : to ≤ 512
