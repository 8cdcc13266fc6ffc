-- "The refused event changes no byte of the store", over the turns of a call. Assumes nothing.
use Rattle.std.specs.Prelude.{◌≡◌, refl, Bool, List, ℕ}
use Rattle.std.proofs.Common.{sym, subst}
use Rattle.record.specs.declared.Record.{Record}
use Rattle.record.specs.declared.Closing.{Closing}
use Rattle.record.specs.declared.Closing.TheVariants.{Open, Done, Refused}
use Rattle.record.specs.Turns.{KeptBy, TurnRefines, TurnsRefine, no_turns, stays, turns}

-- Where a call has closed a session: the turns up to the record and store before the event that closed it, that event, and that it left every byte of the store.
pub record Closed (block : List ℕ) (last : Bool) (r₀ : Record) (st₀ : List ℕ) (c : Closing) (st : List ℕ) : Type 0 where
  pub before : Record
  pub store : List ℕ
  pub taken : ℕ
  pub through : TurnsRefine block last r₀ st₀ before store taken
  pub next : Record
  pub upto : ℕ
  pub event : TurnRefines block last before store taken next st upto
  pub closes : next.closing ≡ c
  pub same_store : st ≡ store

-- a closing answer
abbrev pub IsClosed : Closing → Type 0
IsClosed Open = ⊥
IsClosed Done = Unit
IsClosed (Refused n l) = Unit

kept : (c : Closing) (st st' : List ℕ) → IsClosed c → KeptBy c st st' → st' ≡ st
kept Open st st' h k = absurd h
kept Done st st' h k = k
kept (Refused n l) st st' h k = k

-- A session that was open and is closed now was closed by one event, and that changed no byte of the store.
pub closed_keeps : (block : List ℕ) (last : Bool) (r₀ : Record) (st₀ : List ℕ) (r : Record) (st : List ℕ) (t : ℕ) → TurnsRefine block last r₀ st₀ r st t → r₀.closing ≡ Open
    → IsClosed r.closing → Closed block last r₀ st₀ r.closing st
closed_keeps block last r₀ st₀ r st t no_turns o h = absurd (subst IsClosed o h)
closed_keeps block last r₀ st₀ r st t (stays {r = r₁} k e f) o h = subst (λ c. Closed block last r₀ st₀ c st) (sym f) (closed_keeps block last r₀ st₀ r₁ st t k o (subst IsClosed f h))
closed_keeps block last r₀ st₀ r st t (turns {r = r₁} {st = st₁} {t = t₁} k e) o h = record {
  before = r₁;
  store = st₁;
  taken = t₁;
  through = k;
  next = r;
  upto = t;
  event = e;
  closes = refl;
  same_store = kept r.closing st₁ st h e.kept;
}
