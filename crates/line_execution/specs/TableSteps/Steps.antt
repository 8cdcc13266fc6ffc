-- What the answer of a request that changes a table makes of a status. Assumes nothing.
use Rattle.std.specs.Prelude.{Bool, true, false, ℕ, Option, Result, Ok, Err}
use Rattle.page.specs.declared.springs.Way.TheVariants.{On, Refused}
use Rattle.rules.specs.declared.Refusal.{Refusal}
use Rattle.traps.specs.declared.table.Planted.{Planted}
use Rattle.state.specs.declared.Opened.{Opened}
use Rattle.state.specs.WholeLaws.{way_of, planted_after, texts_opened, opening_after}
use Rattle.state.specs.declared.Status.{Status}
use Rattle.state.specs.declared.WorkOutcome.{WorkOutcome}
use Rattle.state.specs.Steps.{stayed, with_register_count, with_planted, with_text_count}
use Rattle.requests.specs.Nr.Registers.{register_count_after}
use Rattle.requests.specs.Definitions.Texts.{count_changed}

-- after nr
abbrev pub assigned_to : Result ℕ Refusal → Status → WorkOutcome
assigned_to r s = stayed (way_of r) (with_register_count (register_count_after r s.registers) s)

-- after wh
abbrev pub planted_to : Result Planted Refusal → Status → WorkOutcome
planted_to r s = stayed (way_of r) (with_planted (planted_after r s.planted) s)

-- after ds and rm, by whether anything was done, with so many texts then, or by the number of a refusal
abbrev pub changed_by : Result Bool ℕ → (texts : ℕ) → Status → WorkOutcome
changed_by (Ok true) n s = stayed On (with_text_count n s.opening s)
changed_by (Ok false) n s = stayed On s
changed_by (Err k) n s = stayed (Refused k) s

-- the same by their count, or by the refusal
abbrev pub changed_to : Result (Option ℕ) Refusal → Status → WorkOutcome
changed_to r s = stayed (way_of r) (with_text_count (count_changed r s.texts) s.opening s)

-- after de
abbrev pub opened_to : Result (Option Opened) Refusal → Status → WorkOutcome
opened_to r s = stayed (way_of r) (with_text_count (count_changed (texts_opened r) s.texts) (opening_after r s.opening) s)
