-- The table of the registers, as its columns stand for it. Assumes nothing.
use Rattle.std.specs.Prelude.{◌≡◌, List, ℕ, length, take, ℤ}
use Rattle.rules.specs.declared.Name.{Name}
use Rattle.rules.specs.declared.Register.{Register}
use Rattle.rules.specs.Names.{two_bytes}
use Rattle.rules.specs.Registers.{register}
unfoldable pub use Rattle.rules.specs.Columns.{zip_with}
pub use Rattle.rules.specs.Columns.{names_of, Names}
use Rattle.rules.specs.Laws.Registers.{Ordered}

abbrev pub as_register : Name → ℤ × ℤ → Register
as_register n x = register n x.0 x.1

abbrev pub as_pair : ℤ → ℤ → ℤ × ℤ
as_pair v s = (v, s)

-- the registers in the first rows
abbrev pub table_of : (firsts seconds : List ℕ) → (values steps : List ℤ) → (count : ℕ) → List Register
table_of fs ss vs ts n = take n (zip_with as_register (zip_with two_bytes fs ss) (zip_with as_pair vs ts))

-- "The registers stand in name order", in columns of 64 rows
pub record RegistersInvariant (firsts seconds : List ℕ) (values steps : List ℤ) (count : ℕ) : Type 0 where
  pub names : Names firsts seconds count
  pub values_long : length values ≡ 64
  pub steps_long : length steps ≡ 64
  pub sorted : Ordered (names_of firsts seconds count)
