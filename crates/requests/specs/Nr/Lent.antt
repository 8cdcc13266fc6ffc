-- nr, on the registers where they lie. Assumes nothing.
use Rattle.std.specs.Prelude.{◌≡◌, ℕ, Result, Ok, Err, OnErr}
use Rattle.std.proofs.Common.{subst}
use Rattle.rules.specs.declared.Refusal.{Refusal}
use Rattle.rules.specs.Refusals.{Judged}
use Rattle.rules.specs.Results.{judged_by}
use Rattle.rules.specs.State.{State}
use Rattle.rules.specs.StateSetters.{with_registers}
use Rattle.registers.specs.declared.columns.Registers.{Registers}
use Rattle.registers.specs.Table.Columns.{RegistersInvariant}
use Rattle.registers.specs.Table.Lent.{registers_in, SameRows, SameLoans}
use Rattle.texts.specs.Table.Lent.{counted}
use Rattle.requests.specs.Nr.Registers.{AssignRefines}

-- in any state these registers become what the rules say, and a refusal leaves them
pub record AssignsIn (t t' : Registers) (act : State → Judged State) (r : Result Unit Refusal) : Type 0 where
  pub is : (x : State) → judged_by (λ u. with_registers (registers_in t') x) r ≡ act (with_registers (registers_in t) x)
  pub kept : OnErr r (SameRows t t')
  pub loans : SameLoans t t'

-- That says the same of the columns.
pub assigns_columns : (t t' : Registers) (act : State → Judged State) (r : Result Unit Refusal) → AssignsIn t t' act r
    → AssignRefines t.firsts.now t.seconds.now t.values.now t.steps.now t.count act (counted r t'.count) t'.firsts.now t'.seconds.now t'.values.now t'.steps.now
assigns_columns t t' act (Ok u) a = record { is = a.is; table = t'.sound; kept = tt }
assigns_columns t t' act (Err e) a =
    record {
      is = a.is;
      table = subst (λ (n : ℕ). RegistersInvariant t'.firsts.now t'.seconds.now t'.values.now t'.steps.now n) a.kept.count t'.sound;
      kept = (a.kept.firsts, a.kept.seconds, a.kept.values, a.kept.steps);
    }
