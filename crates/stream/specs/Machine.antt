-- Any formatter as a machine: the pages of a document and what one call does. Assumes nothing.
use Rattle.std.specs.Prelude.{Bool, true, false, List, [], ◌∷◌, ◌++◌, ℕ, zero, suc, ◌+◌, ◌*◌, ◌<◌, length}
use Rattle.stream.specs.Answers.{Closing, ReplyKind, needs_input, needs_room, closes}

-- What a state does next: it works, and leaves a text to be written first; it asks for a byte, or for the end; or it is closed.
pub data Step (S : Type 0) : Type 0 where
  works : List ℕ → S → Step S
  asks : (ℕ → S) → S → Step S
  closed : Closing → Step S

-- A machine: its step, how much work a state has left, and more than a byte can add to that.
pub record Machine (S : Type 0) : Type 0 where
  pub step : S → Step S
  pub load : S → ℕ
  pub per_byte : ℕ

-- The pages of a document and its closing answer.
pub record Pages : Type 0 where
  pub bytes : List ℕ
  pub answer : ReplyKind

-- the text w, then these pages
abbrev pub pages_after : List ℕ → Pages → Pages
pages_after w p = record { bytes = w ++ p.bytes; answer = p.answer }

-- What one call does: the bytes it takes and writes, what it leaves of its block, its answer, and the waiting text and the state after it.
pub record Outcome (S : Type 0) : Type 0 where
  pub took : List ℕ
  pub bytes : List ℕ
  pub rest : List ℕ
  pub answer : ReplyKind
  pub waiting : List ℕ
  pub state : S

module _ {S : Type 0} where
  abbrev pub stop : S → (block waiting : List ℕ) → ReplyKind → Outcome S
  stop s bl ws a = record { took = []; bytes = []; rest = bl; answer = a; waiting = ws; state = s }

  abbrev pub writing : ℕ → Outcome S → Outcome S
  writing b o = record { took = o.took; bytes = b ∷ o.bytes; rest = o.rest; answer = o.answer; waiting = o.waiting; state = o.state }

  abbrev pub taking : ℕ → Outcome S → Outcome S
  taking b o = record { took = b ∷ o.took; bytes = o.bytes; rest = o.rest; answer = o.answer; waiting = o.waiting; state = o.state }

  -- "if output waits, write a byte, or stop with "needs room" if no room is left": `full` stops, `go` goes on with the room that is left
  abbrev pub flush : (full : List ℕ → Outcome S) → (go : ℕ → Outcome S) → (waiting : List ℕ) → (room : ℕ) → Outcome S
  flush full go [] r = go r
  flush full go (b ∷ ws) zero = full (b ∷ ws)
  flush full go (b ∷ ws) (suc r) = writing b (flush full go ws r)

  module _ (m : Machine S) where
    -- the pages of the document d from a step on; n is the fuel, which is never used up (Laws, `machine_ends`)
    abbrev pub pages_by : (n : ℕ) → Step S → (d : List ℕ) → Pages
    pages_by zero x d = record { bytes = []; answer = needs_input }
    pages_by (suc n) (works w s) d = pages_after w (pages_by n (m.step s) d)
    pages_by (suc n) (asks t e) [] = pages_by n (m.step e) []
    pages_by (suc n) (asks t e) (b ∷ d) = pages_by n (m.step (t b)) d
    pages_by (suc n) (closed a) d = record { bytes = []; answer = closes a }

    -- a call on a block with room r, from a state s whose step is x, while no text waits: "deal with the top of the input stack; else take one byte; else, if
    -- marked last, read the end; else stop with "needs input"". Its fuel is never used up (Laws, `call_works`, `call_takes` and `call_ends`)
    abbrev pub call_by : (n : ℕ) → S → Step S → (block : List ℕ) → (last : Bool) → (room : ℕ) → Outcome S
    call_by zero s x bl last r = stop s bl [] needs_input
    call_by (suc n) s (works w s') bl last r = flush (λ ws. stop s' bl ws needs_room) (λ r'. call_by n s' (m.step s') bl last r') w r
    call_by (suc n) s (asks t e) [] false r = stop s [] [] needs_input
    call_by (suc n) s (asks t e) [] true r = call_by n e (m.step e) [] true r
    call_by (suc n) s (asks t e) (b ∷ bl) last r = taking b (call_by n (t b) (m.step (t b)) bl last r)
    call_by (suc n) s (closed a) bl last r = stop s bl [] (closes a)

    -- above the number of steps that are left with these bytes to come
    abbrev pub fuel : S → List ℕ → ℕ
    fuel s d = suc (length d * m.per_byte + m.load s)

    -- the pages of the document d from a state on
    abbrev pub pages_from : S → (d : List ℕ) → Pages
    pages_from s d = pages_by (fuel s d) (m.step s) d

    -- one call of a session that stands at the state s with a text waiting
    abbrev pub call_from : (waiting : List ℕ) → S → (block : List ℕ) → (last : Bool) → (room : ℕ) → Outcome S
    call_from ws s bl last r = flush (λ ws'. stop s bl ws' needs_room) (λ r'. call_by (fuel s bl) s (m.step s) bl last r') ws r

    module _ (Good : S → Type 0) where
      -- the states after a step are good, and less work is left: less than k after a piece of work or the end; a byte adds less than `per_byte`
      abbrev pub Below : Step S → (k : ℕ) → Type 0
      Below (works w s) k = Good s × (m.load s < k)
      Below (asks t e) k = (Good e × (m.load e < k)) × ((b : ℕ) → Good (t b) × (m.load (t b) < m.per_byte + k))
      Below (closed a) k = Unit

      -- The one law asked of a machine.
      abbrev pub Falls : Type 0
      Falls = (s : S) → Good s → Below (m.step s) (m.load s)
