-- What a call does, over records and stores. Assumes nothing.
use Rattle.std.specs.Prelude.{◌≡◌, Bool, List, ◌++◌, ℕ, length, drop}
use Rattle.stream.specs.declared.Answer.{Answer}
use Rattle.stream.specs.declared.Answer.TheVariants as answer
use Rattle.stream.specs.Answers.{reply_of}
use Rattle.stream.specs.Machine.{Outcome, call_from}
use Rattle.rules.specs.Printers.{ten_to_the_inch}
use Rattle.rules.specs.State.{State}
use Rattle.rules.specs.Load.{formatter}
use Rattle.record.specs.declared.Record.{Record}
use Rattle.record.specs.declared.Reply.{Reply}
use Rattle.record.specs.declared.Closing.{Closing}
use Rattle.record.specs.declared.Closing.TheVariants.{Open, Done, Refused}
use Rattle.record.specs.View.{state_of, waiting_of, ValidRecord}

-- what the rules do in a call on a record and a store, with a block and so much room
abbrev pub call_on : Record → (store block : List ℕ) → (last : Bool) → (room : ℕ) → Outcome State
call_on r st bl last room = call_from (formatter ten_to_the_inch) (waiting_of r) (state_of r st) bl last room

-- the answer of a closed record
abbrev pub Closes : Closing → Answer → Type 0
Closes Open a = ⊥
Closes Done a = a ≡ answer.Done
Closes (Refused n l) a = a ≡ answer.Refused n l

-- a record is closed with this answer, and nothing waits
pub record Ended (r : Record) (a : Answer) : Type 0 where
  pub closes : Closes r.closing a
  pub none : r.waiting.at ≡ r.waiting.end

-- what an answer says of the record
abbrev pub EndedBy : Answer → Record → Type 0
EndedBy answer.NeedsInput r = Unit
EndedBy answer.NeedsRoom r = Unit
EndedBy answer.Done r = Ended r answer.Done
EndedBy (answer.Refused n l) r = Ended r (answer.Refused n l)

-- a call does what the rules do: o is that, from the record and the store on
pub record CallRefines (o : Outcome State) (out : List ℕ) (p : Reply) (st' out' : List ℕ) : Type 0 where
  pub says : reply_of p.answer ≡ o.answer
  pub taken : p.taken ≡ length o.took
  pub written : p.written ≡ length o.bytes
  pub room : out' ≡ o.bytes ++ drop (length o.bytes) out
  pub waiting : waiting_of p.next ≡ o.waiting
  pub state : state_of p.next st' ≡ o.state
  pub valid : ValidRecord p.next st'
  pub ended : EndedBy p.answer p.next
