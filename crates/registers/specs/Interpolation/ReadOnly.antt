-- The read-only registers, as the answers stand for them. Assumes nothing.
use Rattle.std.specs.Prelude.{◌≡◌, ℤ, Option, None, Some, Result, OnErr}
use Rattle.rules.specs.declared.Name.{Name}
use Rattle.rules.specs.declared.Refusal.{Refusal}
use Rattle.rules.specs.declared.Turn.{Turn}
use Rattle.rules.specs.Results.{judged_by}
use Rattle.rules.specs.Registers.{Seen, step_register}
use Rattle.registers.specs.declared.interpolation.ReadOnly.{ReadOnly}
use Rattle.registers.specs.declared.interpolation.ReadOnly.TheVariants.{Page, Rows, Length, Indent, PageLength}
use Rattle.registers.specs.declared.interpolation.Shown.{Shown}
use Rattle.registers.specs.declared.columns.RegisterValues.{RegisterValues}
use Rattle.registers.specs.Table.Lent.{registers_with, OnlyValues}

-- what a read-only register shows
abbrev pub shows : ReadOnly → Seen → ℤ
shows Page s = s.page
shows Rows s = s.rows
shows Length s = s.line_length
shows Indent s = s.indent
shows PageLength s = s.page_length

-- what a name shows, for the answer that says which register it is
abbrev pub read_only_of : Option ReadOnly → Option (Seen → ℤ)
read_only_of (Some r) = Some (shows r)
read_only_of None = None

-- the values in force
abbrev pub seen_of : Shown → Seen
seen_of s = record { page = s.page; rows = s.rows; line_length = s.length; indent = s.indent; page_length = s.page_length }

-- a reference is made as the rules say, the names and the steps stay, and nothing changes where it is refused
pub record ReferTo (t t' : RegisterValues) (shown : Shown) (turn : Turn) (name : Name) (r : Result ℤ Refusal) : Type 0 where
  pub is : judged_by (λ v. (v, registers_with t')) r ≡ step_register (seen_of shown) turn name (registers_with t)
  pub kept : OnErr r (t'.values.now ≡ t.values.now)
  pub rest : OnlyValues t t'
