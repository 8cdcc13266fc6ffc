-- What the answers stand for, in the rules' terms. Assumes nothing.
use Rattle.std.specs.Prelude.{◌≡◌, ⊤, ℤ, ◌+ℤ◌, ◌-ℤ◌, None, Result, OnErr}
use Rattle.rules.specs.declared.Name.{Name}
use Rattle.rules.specs.declared.Refusal.{Refusal}
use Rattle.rules.specs.declared.Turn.{Turn}
use Rattle.rules.specs.declared.Turn.TheVariants.{Still, Up, Down}
use Rattle.rules.specs.Refusals.{Judged, value}
use Rattle.rules.specs.Results.{judged_by}
use Rattle.rules.specs.Numbers.{within}
use Rattle.rules.specs.Registers.{register_of, set_value, Seen, refer_by}
use Rattle.registers.specs.declared.columns.Registers.{Registers}
use Rattle.registers.specs.declared.columns.RegisterValues.{RegisterValues}
use Rattle.registers.specs.Table.Lent.{registers_in, registers_with, SameLoans, SameRows, OnlyValues}

-- a register is set as the rules say, and nothing changes where there is no place
pub record SetTo (t t' : Registers) (name : Name) (v s : ℤ) (r : Result ⊤ Refusal) : Type 0 where
  pub is : judged_by (λ u. registers_in t') r ≡ set_value name v s (registers_in t)
  pub kept : OnErr r (SameRows t t')
  pub loans : SameLoans t t'

-- the value to which a register turns, as `refer_by` has it
abbrev pub turned_of : Turn → (value step : ℤ) → Judged ℤ
turned_of Still v s = value v
turned_of Up v s = within (v +ℤ s)
turned_of Down v s = within (v -ℤ s)

-- a reference is made as the rules say of a name that is not predefined, and nothing changes where it is refused
pub record StepTo (t t' : RegisterValues) (turn : Turn) (name : Name) (r : Result ℤ Refusal) : Type 0 where
  pub is : (shown : Seen) → judged_by (λ v. (v, registers_with t')) r ≡ refer_by turn None (register_of name (registers_with t)) shown (registers_with t)
  pub kept : OnErr r (t'.values.now ≡ t.values.now)
  pub rest : OnlyValues t t'
