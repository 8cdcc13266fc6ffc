-- Laws of what the answers make of the whole state. Assumes nothing.
use Rattle.std.specs.Prelude.{◌≡◌, false, List, ℕ, ℤ, Option, Result}
use Rattle.rules.specs.declared.Refusal.{Refusal}
use Rattle.rules.specs.Refusals.{Judged}
use Rattle.rules.specs.Names.{Named}
use Rattle.rules.specs.State.{State}
use Rattle.rules.specs.Rows.{Next}
use Rattle.rules.specs.Acts.{settles}
use Rattle.page.specs.declared.springs.Way.{Way}
use Rattle.traps.specs.declared.table.Planted.{Planted}
use Rattle.settings.specs.declared.layout.Printer.{Printer}
use Rattle.requests.specs.Nr.Registers.{AssignRefines}
use Rattle.requests.specs.Wh.Traps.{PlantRefines}
use Rattle.requests.specs.Definitions.Texts.{ChangeRefines, OpensAs, alone}
use Rattle.state.specs.declared.Opened.{Opened}
use Rattle.state.specs.declared.Status.{Status}
use Rattle.state.specs.Whole.{WholeState, StateRefines}
use Rattle.state.specs.WholeLaws.{assign_refines, plant_refines, change_refines, open_refines, texts_opened, OpeningIs}
use Rattle.state.specs.Statuses.{whole_of, StateReady}
use Rattle.line_execution.specs.TableSteps.Steps.{assigned_to, planted_to, changed_to, opened_to}

-- The same of texts that are the same.
pub texts_moved : {rule : State → Next} {w : WholeState} {way : Way} {n : ℕ} {s : Status} {cs bs ps st tf ts ks ls st' tf' ts' ks' ls' fs ss : List ℕ} {vs us : List ℤ} {row : List ℕ} → st' ≡ st → tf' ≡ tf → ts' ≡ ts → ks' ≡ ks → ls' ≡ ls
    → StateRefines rule w way n (whole_of s cs bs ps st tf ts ks ls fs ss vs us) row → StateRefines rule w way n (whole_of s cs bs ps st' tf' ts' ks' ls' fs ss vs us) row
texts_moved a b c d e h = rw (a, b, c, d, e) h

-- The same of registers that are the same.
pub registers_moved : {rule : State → Next} {w : WholeState} {way : Way} {n : ℕ} {s : Status} {cs bs ps st tf ts ks ls fs ss fs' ss' : List ℕ} {vs us vs' us' : List ℤ} {row : List ℕ} → fs' ≡ fs → ss' ≡ ss → vs' ≡ vs → us' ≡ us
    → StateRefines rule w way n (whole_of s cs bs ps st tf ts ks ls fs ss vs us) row → StateRefines rule w way n (whole_of s cs bs ps st tf ts ks ls fs' ss' vs' us') row
registers_moved a b c d h = rw (a, b, c, d) h

module _ (s : Status) (cs bs ps st tf ts ks ls fs ss : List ℕ) (vs us : List ℤ) (bytes row : List ℕ) (p : Printer) where
  abbrev q : WholeState
  q = whole_of s cs bs ps st tf ts ks ls fs ss vs us

  module _ (b : StateReady q bytes row p) where
    pub assigned_refines : (act : State → Judged State) (r : Result ℕ Refusal) (fs' ss' : List ℕ) (vs' us' : List ℤ) → AssignRefines fs ss vs us s.registers act r fs' ss' vs' us'
        → StateRefines (λ v. settles (act v) v) q (assigned_to r s).way (assigned_to r s).written (whole_of (assigned_to r s).status cs bs ps st tf ts ks ls fs' ss' vs' us') row
    assigned_refines act r fs' ss' vs' us' a = assign_refines act q r fs' ss' vs' us' row b.sound b.items b.long a

    pub planted_refines : (act : State → Judged State) (r : Result Planted Refusal) → PlantRefines s.planted act r
        → StateRefines (λ v. settles (act v) v) q (planted_to r s).way (planted_to r s).written (whole_of (planted_to r s).status cs bs ps st tf ts ks ls fs ss vs us) row
    planted_refines act r a = plant_refines act q r row b.sound b.items b.long a

    module _ (c : s.opening.there ≡ false) (st' tf' ts' ks' ls' : List ℕ) where
      pub changed_refines : (act : State → Judged State) (r : Result (Option ℕ) Refusal) → ChangeRefines st tf ts ks ls s.texts s.stack ps alone act r st' tf' ts' ks' ls'
          → StateRefines (λ v. settles (act v) v) q (changed_to r s).way (changed_to r s).written (whole_of (changed_to r s).status cs bs ps st' tf' ts' ks' ls' fs ss vs us) row
      changed_refines act r a = change_refines act q st' tf' ts' ks' ls' row b.sound b.items b.long c r a

      pub opened_refines : (act : State → Judged State) (m : Named) (r : Result (Option Opened) Refusal) → OpensAs st tf ts ks ls s.texts s.stack ps m act (texts_opened r) st' tf' ts' ks' ls' → OpeningIs m r
          → StateRefines (λ v. settles (act v) v) q (opened_to r s).way (opened_to r s).written (whole_of (opened_to r s).status cs bs ps st' tf' ts' ks' ls' fs ss vs us) row
      opened_refines act m r a f = open_refines act q st' tf' ts' ks' ls' row b.sound b.items b.long c m r a f
