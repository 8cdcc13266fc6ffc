-- A record and its store as a state of the rules, and the limits of a record. Assumes nothing.
use Rattle.std.specs.Prelude.{◌≡◌, List, [], ℕ, ◌-◌, ◌≤◌, length, take, drop}
use Rattle.stream.specs.Answers.{done, refused}
use Rattle.rules.specs.Printers.{ten_to_the_inch}
use Rattle.rules.specs.State.{State, start, close}
use Rattle.rules.specs.StateSetters.{input, with_input}
use Rattle.rules.specs.Load.{Good}
use Rattle.limits.specs.Within.{Within}
use Rattle.source_line.specs.declared.Source.{Source}
use Rattle.page.specs.Springs.Held.{StackFits}
use Rattle.state.specs.Whole.{WholeState, state_in, StateInvariant}
use Rattle.state.specs.Statuses.{whole_of}
use Rattle.record.specs.declared.Record.{Record}
use Rattle.record.specs.declared.Closing.{Closing}
use Rattle.record.specs.declared.Closing.TheVariants.{Open, Done, Refused}

-- a state with this source, of which the bytes gathered lie in an array; its other parts are free
abbrev pub sourced : Source → (gathered : List ℕ) → State
sourced s g = with_input (input (take s.length g) s.line s.ended s.stored []) (start ten_to_the_inch)

-- the state, closed in this way
abbrev pub closed_as : Closing → State → State
closed_as Open s = s
closed_as Done s = close done s
closed_as (Refused n l) s = close (refused n l) s

-- all that work on an item of the stack changes
abbrev pub whole_in : Record → (store : List ℕ) → WholeState
whole_in r st =
    whole_of r.status r.cells r.arena r.ends st r.text_firsts r.text_seconds r.kinds r.lengths r.firsts r.seconds r.values r.steps

-- THE STATE of a record and its store. What it leaves out is free: the bytes of the arrays and of the store past those in use, and the place of waiting bytes where none wait.
abbrev pub state_of : Record → (store : List ℕ) → State
state_of r st = closed_as r.closing (state_in (whole_in r st) (sourced r.source r.gathered))

-- the text that waits to be written
abbrev pub waiting_of : Record → List ℕ
waiting_of r = take (r.waiting.end - r.waiting.at) (drop r.waiting.at r.row)

-- "12: past 1,000,000 source lines": the line past them closes a session
abbrev pub most_lines : Closing → ℕ
most_lines Open = 1000000
most_lines Done = 1000001
most_lines (Refused n l) = 1000001

-- The limits of a record, with its store, that lengths and counts have.
pub record RecordInvariant (r : Record) (store : List ℕ) : Type 0 where
  pub sound : StateInvariant (whole_in r store)
  pub fits : StackFits r.status.stack r.ends
  pub gathered_long : length r.gathered ≡ 512
  pub row_long : length r.row ≡ 872
  pub short : r.source.length ≤ 512
  pub numbered : r.source.line ≤ most_lines r.closing
  pub counted : r.source.stored ≤ 10000
  pub order : r.waiting.at ≤ r.waiting.end
  pub inside : r.waiting.end ≤ 872

-- The limits of a record, with its store: those, and what every state of the rules keeps to.
pub record ValidRecord (r : Record) (store : List ℕ) : Type 0 where
  pub formed : RecordInvariant r store
  pub within : Within (state_of r store)

-- a record within its limits stands for a state within the machine's
pub formed_good : (r : Record) (st : List ℕ) → RecordInvariant r st → Good (state_of r st)
formed_good r st f = go r.closing
  where
    l : StateInvariant (whole_in r st)
    l = f.sound

    go : (c : Closing) → Good (closed_as c (state_in (whole_in r st) (sourced r.source r.gathered)))
    go Open = (l.page_state.above, l.page_state.limits.page_most)
    go Done = (l.page_state.above, l.page_state.limits.page_most)
    go (Refused n k) = (l.page_state.above, l.page_state.limits.page_most)
