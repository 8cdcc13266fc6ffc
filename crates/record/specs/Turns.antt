-- The turns of a call, over records. Assumes nothing.
use Rattle.std.specs.Prelude.{◌≡◌, Option, Some, None, Bool, true, false, List, [], ℕ, ◌+◌, ◌-◌, ◌*◌, ◌<◌, ◌≤◌, length, take, drop, ℤ}
use Rattle.stream.specs.declared.Answer.{Answer}
use Rattle.stream.specs.Answers.{reply_of}
use Rattle.stream.specs.Machine.{works, stop, call_from}
use Rattle.rules.specs.Printers.{ten_to_the_inch}
use Rattle.rules.specs.State.{State}
use Rattle.rules.specs.Rows.{Next}
use Rattle.rules.specs.Session.{step}
use Rattle.rules.specs.Load.{load, byte_load, formatter}
use Rattle.rules.specs.ControlLines.{deal}
use Rattle.source_line.specs.declared.Source.{Source}
use Rattle.source_line.specs.Gathering.{Takes}
use Rattle.source_line.specs.CallLaws.{outcome_after}
use Rattle.source_line.specs.Writing.{WrittenTo}
use Rattle.page.specs.declared.springs.Way.{Way}
use Rattle.page.specs.declared.springs.Way.TheVariants as way
use Rattle.page.specs.Springs.Held.{StackFits}
use Rattle.state.specs.declared.Status.{Status}
use Rattle.state.specs.Whole.{WholeState, state_in, StateInvariant}
use Rattle.formatter.specs.StoredLines.Works.{Quiet}
use Rattle.record.specs.declared.RecordCore.{RecordCore}
use Rattle.record.specs.declared.Record.{Record}
use Rattle.record.specs.declared.Closing.{Closing}
use Rattle.record.specs.declared.Closing.TheVariants.{Open, Done, Refused}
use Rattle.record.specs.declared.Waiting.{Waiting}
use Rattle.record.specs.declared.TurnOutcome.{TurnOutcome}
use Rattle.record.specs.declared.WrittenOut.{WrittenOut}
use Rattle.record.specs.declared.Ran.{Ran}
use Rattle.record.specs.declared.Reply.{Reply}
use Rattle.record.specs.Contract.{call_on, Closes, EndedBy, CallRefines}
use Rattle.record.specs.View.{sourced, state_of, waiting_of, RecordInvariant, ValidRecord}

-- the record of a core and the arrays
abbrev pub record_of : RecordCore → (g cs row bs ps tf ts ks ls fs ss : List ℕ) → (vs us : List ℤ) → Record
record_of p g cs row bs ps tf ts ks ls fs ss vs us = record {
  status = p.status;
  source = p.source;
  waiting = p.waiting;
  closing = p.closing;
  gathered = g;
  cells = cs;
  row = row;
  arena = bs;
  ends = ps;
  text_firsts = tf;
  text_seconds = ts;
  kinds = ks;
  lengths = ls;
  firsts = fs;
  seconds = ss;
  values = vs;
  steps = us;
}

-- a core, part by part
abbrev pub core_of : Status → Source → Waiting → Closing → RecordCore
core_of s x w c = record { status = s; source = x; waiting = w; closing = c }

-- the arrays of a record at another place
abbrev pub put_at : RecordCore → Record → Record
put_at p r = record_of p r.gathered r.cells r.row r.arena r.ends r.text_firsts r.text_seconds r.kinds r.lengths r.firsts r.seconds r.values r.steps

-- nothing waits
abbrev pub nothing_waits : Waiting
nothing_waits = record { at = 0; end = 0 }

-- the core of an open session for which nothing waits
abbrev pub resting : Status → Source → RecordCore
resting s x = core_of s x nothing_waits Open

-- the core that a turn leads to
abbrev pub core_in : TurnOutcome → RecordCore
core_in t = core_of t.status t.source t.waiting t.closing

-- the closing that a way leads to, at a source line
abbrev pub closing_of : Way → ℕ → Closing
closing_of way.On l = Open
closing_of way.Done l = Done
closing_of (way.Refused n) l = Refused n l

-- after a piece of work so many bytes of the row wait
abbrev pub core_after : Status → Source → Way → ℕ → RecordCore
core_after s x w n = core_of s x (record { at = 0; end = n }) (closing_of w x.line)

-- and the call goes on
abbrev pub turn_after : Status → Source → Way → (written taken : ℕ) → TurnOutcome
turn_after s x w n t = record { stop = None; status = s; source = x; waiting = record { at = 0; end = n }; closing = closing_of w x.line; taken = t }

-- with whichever bytes in the array of the gathered line
abbrev pub Whichever : (List ℕ → Type 0) → Type 0
Whichever P = (g : List ℕ) → length g ≡ 512 → P g

-- "The refused event changes no byte of the store": nor does the one that is done.
abbrev pub KeptBy : Closing → (store store' : List ℕ) → Type 0
KeptBy Open st st' = Unit
KeptBy Done st st' = st' ≡ st
KeptBy (Refused n l) st st' = st' ≡ st

-- a piece of work leads from a store to a record and its store
pub record RecordRefines (x : Next) (st₀ : List ℕ) (r : Record) (st : List ℕ) : Type 0 where
  pub does : x ≡ works (waiting_of r) (state_of r st)
  pub formed : RecordInvariant r st
  pub kept : KeptBy r.closing st₀ st

-- a line may be dealt with: no bytes are gathered, and nothing lies on the stack
pub record DealReady (q : WholeState) (s : Source) (line row : List ℕ) : Type 0 where
  pub sound : StateInvariant q
  pub empty : q.page_state.stack.depth ≡ 0
  pub short : length line ≤ 512
  pub row_long : length row ≡ 872
  pub none : s.length ≡ 0
  pub numbered : s.line ≤ 1000000
  pub counted : s.stored ≤ 10000

-- the line is dealt with
abbrev pub LineRefines : (line : List ℕ) → WholeState → Source → (g : List ℕ) → Record → List ℕ → Type 0
LineRefines line q s g r st = RecordRefines (deal ten_to_the_inch [] line (state_in q (sourced s g))) q.texts.store r st

-- there is work to do: an item lies on the stack, or the end was read
pub record WorkReady (t : Status) (s : Source) (q : WholeState) (row : List ℕ) : Type 0 where
  pub sound : StateInvariant q
  pub fits : StackFits t.stack q.page_state.ends
  pub quiet : Quiet q
  pub row_long : length row ≡ 872
  pub short : s.length ≤ 512
  pub numbered : s.line ≤ 1000000
  pub counted : s.stored ≤ 10000
  pub ready : t.stack.depth ≡ 0 → s.ended ≡ true

-- a record that asks for a byte or the end, with its store
pub record InputReady (r : Record) (st : List ℕ) : Type 0 where
  pub formed : RecordInvariant r st
  pub unclosed : r.closing ≡ Open
  pub empty : r.status.stack.depth ≡ 0
  pub unended : r.source.ended ≡ false

-- a state is that of a record for which nothing waits, or one piece of work leads from it to the record
pub data Arrives (s : State) (st₀ : List ℕ) (r : Record) (st : List ℕ) : Type 0 where
  arrived : s ≡ state_of r st → waiting_of r ≡ [] → RecordInvariant r st → st ≡ st₀ → Arrives s st₀ r st
  after_work : RecordRefines (step ten_to_the_inch s) st₀ r st → Arrives s st₀ r st

-- the bytes of a block from one place up to another lead from a record to another
pub record InputRefines (block : List ℕ) (r : Record) (st : List ℕ) (t : ℕ) (r' : Record) (st' : List ℕ) (t' : ℕ) : Type 0 where
  pub between : State
  pub takes : Takes (state_of r st) (take (t' - t) (drop t block)) between
  pub arrives : Arrives between st r' st'
  pub some : t < t'
  pub within : t' ≤ length block

-- a source without gathered bytes
abbrev pub emptied : Source → (ended : Bool) → Source
emptied s e = record { line = s.line; length = 0; ended = e; stored = s.stored }

-- how much work a call has left at most, in the machine's units
abbrev pub weight : (block : List ℕ) → Record → (store : List ℕ) → (taken : ℕ) → ℕ
weight bl r st t = (length bl - t) * byte_load + load (state_of r st)

-- nothing waits, and so many bytes of the block are taken
pub record TurnReady (block : List ℕ) (r : Record) (st : List ℕ) (t : ℕ) : Type 0 where
  pub valid : ValidRecord r st
  pub none : r.waiting.at ≡ r.waiting.end
  pub within : t ≤ length block

-- a call goes on from a record to another: what it does is what it takes between them, and then what it does from the other on
pub record TurnRefines (block : List ℕ) (last : Bool) (r : Record) (st : List ℕ) (t : ℕ) (r' : Record) (st' : List ℕ) (t' : ℕ) : Type 0 where
  pub same : (room : ℕ) → call_from (formatter ten_to_the_inch) [] (state_of r st) (drop t block) last room
      ≡ outcome_after (take (t' - t) (drop t block)) [] (call_from (formatter ten_to_the_inch) (waiting_of r') (state_of r' st') (drop t' block) last room)
  pub valid : ValidRecord r' st'
  pub less : weight block r' st' t' < weight block r st t
  pub behind : t ≤ t'
  pub within : t' ≤ length block
  pub unclosed : r.closing ≡ Open
  pub kept : KeptBy r'.closing st st'

-- a call stops at a record with an answer
pub record StopRefines (block : List ℕ) (last : Bool) (r : Record) (st : List ℕ) (t : ℕ) (a : Answer) (r' : Record) (st' : List ℕ) (t' : ℕ) : Type 0 where
  pub same : (room : ℕ) → call_from (formatter ten_to_the_inch) [] (state_of r st) (drop t block) last room ≡ stop (state_of r st) (drop t block) [] (reply_of a)
  pub ended : EndedBy a r
  pub same_record : r' ≡ r
  pub same_store : st' ≡ st
  pub same_taken : t' ≡ t

-- one turn of a call
abbrev pub TurnContract : Option Answer → (block : List ℕ) → (last : Bool) → Record → (st : List ℕ) → (t : ℕ) → Record → (st' : List ℕ) → (t' : ℕ) → Type 0
TurnContract None bl last r st t r' st' t' = TurnRefines bl last r st t r' st' t'
TurnContract (Some a) bl last r st t r' st' t' = StopRefines bl last r st t a r' st' t'

-- whether there is work to do
pub record HasWork (depth : ℕ) (ended : Bool) (r : Bool) : Type 0 where
  pub yes : r ≡ true → depth ≡ 0 → ended ≡ true
  pub no : r ≡ false → (depth ≡ 0) × (ended ≡ false)

-- so many of the waiting bytes are written
abbrev pub advanced : Waiting → ℕ → Waiting
advanced w n = record { at = w.at + n; end = w.end }

-- as many of the waiting bytes as fit are written
pub record WrittenOutTo (w : Waiting) (row out : List ℕ) (from : ℕ) (r : WrittenOut) (out' : List ℕ) : Type 0 where
  pub count : ℕ
  pub written : WrittenTo row w.at w.end out from count out'
  pub waiting : r.waiting ≡ advanced w count
  pub to : r.written ≡ from + count

-- the answer of a session that is closed
abbrev pub ClosedIs : Option Answer → Closing → Type 0
ClosedIs None c = c ≡ Open
ClosedIs (Some a) c = Closes c a

-- the same record, but for the bytes that wait
abbrev pub with_waiting : Waiting → Record → Record
with_waiting w r = put_at (core_of r.status r.source w r.closing) r

-- The turns that a call has made from a record and its store on, one after the other: each leads on as the rules do and, if it closes the session, leaves every byte of the store
-- as it was. Between them waiting bytes are written, or the record is put down anew, which changes neither the state nor the store.
pub data TurnsRefine (block : List ℕ) (last : Bool) (r₀ : Record) (st₀ : List ℕ) : Record → (st : List ℕ) → (t : ℕ) → Type 0 where
  no_turns : TurnsRefine block last r₀ st₀ r₀ st₀ 0
  stays : {r : Record} {st : List ℕ} {t : ℕ} {r' : Record} → TurnsRefine block last r₀ st₀ r st t → state_of r' st ≡ state_of r st → r'.closing ≡ r.closing
      → TurnsRefine block last r₀ st₀ r' st t
  turns : {r : Record} {st : List ℕ} {t : ℕ} {r' : Record} {st' : List ℕ} {t' : ℕ} → TurnsRefine block last r₀ st₀ r st t → TurnRefines block last r st t r' st' t'
      → TurnsRefine block last r₀ st₀ r' st' t'

-- what the turns of a call come to, from a record and its store on
pub record RunContract (r : Record) (st block : List ℕ) (last : Bool) (out : List ℕ) (p : Reply) (st' out' : List ℕ) : Type 0 where
  pub does : CallRefines (call_on r st block last (length out)) out p st' out'
  pub through : TurnsRefine block last r st p.next st' p.taken

-- how a call ends, with its record
abbrev pub reply_from : Ran → Record → Reply
reply_from r n = record { answer = r.answer; taken = r.taken; written = r.written; next = n }
