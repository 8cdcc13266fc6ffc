-- What a line of an open definition makes of a status. Assumes nothing.
use Rattle.std.specs.Prelude.{◌≡◌, true, List, ℕ, Result, Ok, Err}
use Rattle.rules.specs.declared.Refusal.{Refusal}
use Rattle.rules.specs.Results.{refusal_number}
use Rattle.texts.specs.Table.Changes.{KeptTo}
use Rattle.page.specs.declared.springs.Way.TheVariants.{On, Refused}
use Rattle.state.specs.declared.Status.{Status}
use Rattle.state.specs.declared.WorkOutcome.{WorkOutcome}
use Rattle.state.specs.Steps.{stayed, with_text_count}
use Rattle.line_expansion.specs.BodyLaws.{no_opening}

-- a definition is closed
abbrev pub closed_to : (texts : ℕ) → Status → WorkOutcome
closed_to n s = stayed On (with_text_count n no_opening s)

-- a body line is kept
abbrev pub kept_to : Result ℕ Refusal → Status → WorkOutcome
kept_to (Ok n) s = stayed On (with_text_count s.texts (record { there = true; name = s.opening.name; length = n }) s)
kept_to (Err e) s = stayed (Refused (refusal_number e)) s

-- the store of texts answers whether a line is kept, and the step goes by that
pub record LineKept (s : Status) (st ls line : List ℕ) (r : WorkOutcome) (st' : List ℕ) : Type 0 where
  pub answer : Result ℕ Refusal
  pub is : r ≡ kept_to answer s
  pub kept : KeptTo st ls s.texts s.opening.length line answer st'
