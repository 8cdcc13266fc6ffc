-- What a call promises. Assumes nothing.
use Rattle.std.specs.Prelude.{◌≡◌, Bool, List, ℕ, length}
use Rattle.stream.specs.declared.Answer.{Answer}
use Rattle.stream.specs.declared.Answer.TheVariants as answer
use Rattle.record.specs.declared.Record.{Record}
use Rattle.record.specs.declared.Reply.{Reply}
use Rattle.record.specs.View.{ValidRecord}
use Rattle.record.specs.Contract.{call_on, Ended, CallRefines}
use Rattle.record.specs.Turns.{TurnsRefine}

-- nothing is taken, written or changed
pub record NothingChanged (a : Answer) (r : Record) (st out : List ℕ) (p : Reply) (st' out' : List ℕ) : Type 0 where
  pub reply : p ≡ record { answer = a; taken = 0; written = 0; next = r }
  pub same_store : st' ≡ st
  pub same_out : out' ≡ out

-- THE PROMISE OF A CALL: on a record within its limits it does what the rules do, by turns of which one that closes the session leaves every byte of the store as it was, and
-- changes nothing at all where the record is closed and nothing waits;
-- on any other it is "1", which "comes first, gives line 0, takes and writes nothing and changes nothing".
pub data CallContract (r : Record) (st block : List ℕ) (last : Bool) (out : List ℕ) (p : Reply) (st' out' : List ℕ) : Type 0 where
  served : ValidRecord r st → CallRefines (call_on r st block last (length out)) out p st' out' → TurnsRefine block last r st p.next st' p.taken
      → ((a : Answer) → Ended r a → NothingChanged a r st out p st' out')
      → CallContract r st block last out p st' out'
  turned : (ValidRecord r st → ⊥) → NothingChanged (answer.Refused 1 0) r st out p st' out' → CallContract r st block last out p st' out'
