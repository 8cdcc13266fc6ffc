-- The registers in lent columns, as a list. Assumes nothing.
use Rattle.std.specs.Prelude.{◌≡◌, List}
use Rattle.std.proofs.Math.Path.{refl}
use Rattle.std.proofs.Common.{◌∙◌}
use Rattle.rules.specs.declared.Register.{Register}
use Rattle.registers.specs.declared.columns.Registers.{Registers}
use Rattle.registers.specs.declared.columns.RegisterValues.{RegisterValues}
use Rattle.registers.specs.declared.columns.RegistersRef.{RegistersRef}
use Rattle.registers.specs.Table.Columns.{table_of}

-- lent to be changed
abbrev pub registers_in : Registers → List Register
registers_in r = table_of r.firsts.now r.seconds.now r.values.now r.steps.now r.count

-- lent to be stepped
abbrev pub registers_with : RegisterValues → List Register
registers_with r = table_of r.firsts.now r.seconds.now r.values.now r.steps.now r.count

-- lent to be read
abbrev pub registers_at : RegistersRef → List Register
registers_at r = table_of r.firsts.now r.seconds.now r.values.now r.steps.now r.count

-- the columns are the ones that were lent
pub record SameLoans (t t' : Registers) : Type 0 where
  pub firsts : t'.firsts.ghost_name ≡ t.firsts.ghost_name
  pub seconds : t'.seconds.ghost_name ≡ t.seconds.ghost_name
  pub values : t'.values.ghost_name ≡ t.values.ghost_name
  pub steps : t'.steps.ghost_name ≡ t.steps.ghost_name

-- the columns and the count are as they were
pub record SameRows (t t' : Registers) : Type 0 where
  pub firsts : t'.firsts.now ≡ t.firsts.now
  pub seconds : t'.seconds.now ≡ t.seconds.now
  pub values : t'.values.now ≡ t.values.now
  pub steps : t'.steps.now ≡ t.steps.now
  pub count : t'.count ≡ t.count

-- nothing but the values may have changed, where they were lent
pub record OnlyValues (t t' : RegisterValues) : Type 0 where
  pub firsts : t'.firsts.now ≡ t.firsts.now
  pub seconds : t'.seconds.now ≡ t.seconds.now
  pub steps : t'.steps.now ≡ t.steps.now
  pub count : t'.count ≡ t.count
  pub loan : t'.values.ghost_name ≡ t.values.ghost_name

pub loans_none : {t : Registers} → SameLoans t t
loans_none = record { firsts = refl; seconds = refl; values = refl; steps = refl }

pub loans_more : {t t' t'' : Registers} → SameLoans t t' → SameLoans t' t'' → SameLoans t t''
loans_more a b = record { firsts = b.firsts ∙ a.firsts; seconds = b.seconds ∙ a.seconds; values = b.values ∙ a.values; steps = b.steps ∙ a.steps }

pub only_none : {t : RegisterValues} → OnlyValues t t
only_none = record { firsts = refl; seconds = refl; steps = refl; count = refl; loan = refl }

pub only_more : {t t' t'' : RegisterValues} → OnlyValues t t' → OnlyValues t' t'' → OnlyValues t t''
only_more a b = record { firsts = b.firsts ∙ a.firsts; seconds = b.seconds ∙ a.seconds; steps = b.steps ∙ a.steps; count = b.count ∙ a.count; loan = b.loan ∙ a.loan }
