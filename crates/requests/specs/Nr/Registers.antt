-- nr, as its answer stands for it in any state. Assumes nothing.
use Rattle.std.specs.Prelude.{◌≡◌, refl, List, ℕ, ℤ, Option, Result, Ok, Err, OnErr}
use Rattle.rules.specs.declared.Name.{Name}
use Rattle.rules.specs.declared.Register.{Register}
use Rattle.rules.specs.declared.TableChange.TheVariants.{Nr}
use Rattle.rules.specs.Printers as printers
use Rattle.rules.specs.Names.{name_of}
use Rattle.rules.specs.declared.Refusal.{Refusal}
use Rattle.rules.specs.Refusals.{Judged, value, ◌>>=◌}
use Rattle.rules.specs.Results.{judged_by}
use Rattle.rules.specs.Numbers.{units, signed}
use Rattle.rules.specs.Registers.{value_or0, step_or0}
use Rattle.rules.specs.State.{State}
use Rattle.rules.specs.StateSetters.{with_registers}
use Rattle.rules.specs.Acts.{argument_at, on_name, new_value, new_step, write_register, change}
use Rattle.registers.specs.Table.Columns.{table_of, RegistersInvariant}
use Rattle.settings.specs.declared.layout.Printer.{Printer}
use Rattle.settings.specs.Layout.Layouts.{printer_of}
use Rattle.requests.specs.declared.nr.Numbers.{Numbers}

-- the value and the step of a register
pub record NumbersOf (o : Option Register) (r : Numbers) : Type 0 where
  pub value : r.value ≡ value_or0 o
  pub step : r.step ≡ step_or0 o

-- a value and a step
abbrev pub numbers_of : Numbers → ℤ × ℤ
numbers_of n = (n.value, n.step)

-- nr: the new value, from the one before
abbrev pub value_by : printers.Printer → (new : List ℕ) → (old : ℤ) → Judged ℤ
value_by p v old = units p.pitch v >>= λ x. new_value (signed v) old x

-- the new value, then the new step, from those before
abbrev pub numbers_by : printers.Printer → (new step : List ℕ) → (old : ℤ) → (oldStep : ℤ) → Judged (ℤ × ℤ)
numbers_by p v l old s = do
  y ← value_by p v old
  z ← new_step p l s
  value (y, z)

-- how many registers there are then, of so many before
abbrev pub register_count_after : Result ℕ Refusal → ℕ → ℕ
register_count_after (Ok n) before = n
register_count_after (Err f) before = before

-- in any state these registers become what the rules say; the columns stay a table, and a refusal leaves them
pub record AssignRefines (fs ss : List ℕ) (vs ts : List ℤ) (count : ℕ) (act : State → Judged State) (r : Result ℕ Refusal) (fs' ss' : List ℕ) (vs' ts' : List ℤ) : Type 0 where
  pub is : (x : State) → judged_by (λ n. with_registers (table_of fs' ss' vs' ts' n) x) r ≡ act (with_registers (table_of fs ss vs ts count) x)
  pub table : RegistersInvariant fs' ss' vs' ts' (register_count_after r count)
  pub kept : OnErr r ((fs' ≡ fs) × (ss' ≡ ss) × (vs' ≡ vs) × (ts' ≡ ts))

-- nr of a name
abbrev pub assigns_to : Printer → (new step : List ℕ) → Name → State → Judged State
assigns_to q v l n s = write_register (printer_of q) v l s n

-- nr
abbrev pub assigns : Printer → (name new step : List ℕ) → State → Judged State
assigns q m v l s = on_name (name_of m) s (write_register (printer_of q) v l s)

-- That is the rules' nr.
pub assigns_nr : (q : Printer) (l : List ℕ) (s : State) → assigns q (argument_at 0 l) (argument_at 1 l) (argument_at 2 l) s ≡ change (printer_of q) Nr l s
unfolding change
assigns_nr q l s = refl
