-- wh, as its answer stands for it in any state. Assumes nothing.
use Rattle.std.specs.Prelude.{◌≡◌, refl, List, ℕ, Result, IfOk}
use Rattle.rules.specs.declared.TableChange.TheVariants.{Wh}
use Rattle.rules.specs.Printers as printers
use Rattle.rules.specs.declared.Refusal.{Refusal}
use Rattle.rules.specs.Refusals.{Judged}
use Rattle.rules.specs.Results.{judged_by}
use Rattle.rules.specs.State.{State}
use Rattle.rules.specs.StateSetters.{with_traps}
use Rattle.rules.specs.Acts.{argument_at, plant_trap, change}
use Rattle.traps.specs.declared.table.Planted.{Planted}
use Rattle.traps.specs.Table.Table.{TrapsInvariant, planted_of}
use Rattle.settings.specs.declared.layout.Printer.{Printer}
use Rattle.settings.specs.Layout.Layouts.{printer_of, PrinterInvariant}

-- what wh finds: a table within its limits, and a sound printer
pub record PlantReady (p : Planted) (q : Printer) : Type 0 where
  pub within : TrapsInvariant p
  pub printer : PrinterInvariant q

-- in any state this table becomes what the rules say, and keeps to its limits
pub record PlantRefines (p : Planted) (act : State → Judged State) (r : Result Planted Refusal) : Type 0 where
  pub is : (x : State) → judged_by (λ t. with_traps (planted_of t) x) r ≡ act (with_traps (planted_of p) x)
  pub within : IfOk r TrapsInvariant

-- wh
abbrev pub PlantedTo : (row name : List ℕ) → Planted → Printer → Result Planted Refusal → Type 0
PlantedTo l m p q r = PlantRefines p (λ s. plant_trap (printer_of q) l m s) r

-- That is the rules' wh.
pub plants_wh : (p : printers.Printer) (l : List ℕ) (s : State) → plant_trap p (argument_at 0 l) (argument_at 1 l) s ≡ change p Wh l s
unfolding change
plants_wh p l s = refl
