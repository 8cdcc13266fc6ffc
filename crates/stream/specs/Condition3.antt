-- Condition 3, as a statement over a list of calls. Assumes nothing.
use Rattle.std.specs.Prelude.{◌≡◌, Bool, true, List, [], ◌∷◌, ◌++◌, ◌⊎◌, ℕ, ◌<◌, ◌≤◌, length}
use Rattle.stream.specs.Answers.{Closing, ReplyKind, closes}
use Rattle.stream.specs.Machine.{Machine, Pages, Outcome, call_from}

-- A call as its caller sees it: what was lent, and what was answered.
pub record Call : Type 0 where
  pub block : List ℕ
  pub last : Bool
  pub room : ℕ
  pub taken : ℕ
  pub bytes : List ℕ
  pub answer : ReplyKind

-- the bytes written by these calls, joined in call order
abbrev pub joined_bytes : List Call → List ℕ
joined_bytes [] = []
joined_bytes (c ∷ cs) = c.bytes ++ joined_bytes cs

-- the call c stands in a list, with these calls before it and those after it
pub data Split : List Call → (earlier : List Call) → Call → (later : List Call) → Type 0 where
  here : {c : Call} {later : List Call} → Split (c ∷ later) [] c later
  there : {x c : Call} {calls earlier later : List Call} → Split calls earlier c later → Split (x ∷ calls) (x ∷ earlier) c later

-- CONDITION 3 over a list of calls, where p is the pages of the whole document and its closing answer.
pub record Condition3 (p : Pages) (calls : List Call) : Type 0 where
  -- after each call the bytes written so far, joined, are the beginning of the document's pages
  pub begins : {earlier later : List Call} {c : Call} → Split calls earlier c later
      → (more : List ℕ) × ((joined_bytes earlier ++ c.bytes) ++ more ≡ p.bytes)
  -- a call that answers done or refused gives the document's closing answer, and the pages are then all written
  pub completes : {earlier later : List Call} {c : Call} → Split calls earlier c later → (a : Closing) → c.answer ≡ closes a
      → (p.answer ≡ closes a) × (joined_bytes earlier ++ c.bytes ≡ p.bytes)
  -- every later call repeats that answer, taking and writing nothing
  pub repeats : {earlier later between last : List Call} {c l : Call} → Split calls earlier c later → (a : Closing) → c.answer ≡ closes a
      → Split later between l last → (l.answer ≡ closes a) × (l.taken ≡ 0) × (l.bytes ≡ [])
  -- a call with room for a byte, and with input or the last mark, takes a byte, writes one or gives that answer
  pub moves : {earlier later : List Call} {c : Call} → Split calls earlier c later → 0 < c.room → (0 < length c.block) ⊎ (c.last ≡ true)
      → (0 < c.taken) ⊎ ((0 < length c.bytes) ⊎ ((a : Closing) × (c.answer ≡ closes a)))
  -- counts never pass the block and the room
  pub within : {earlier later : List Call} {c : Call} → Split calls earlier c later → (c.taken ≤ length c.block) × (length c.bytes ≤ c.room)

module _ {S : Type 0} where
  abbrev pub machine_call_seen : List ℕ → Bool → ℕ → Outcome S → Call
  machine_call_seen bl last r o = record { block = bl; last = last; room = r; taken = length o.took; bytes = o.bytes; answer = o.answer }

  -- The calls made by the rules of the condition from a state with a text waiting, d being what is not taken of the document: each call is on what the call
  -- before it handed out, its block begins at the first byte not taken, and it is marked last only if it reaches the document's end.
  pub data Calls (m : Machine S) : (waiting : List ℕ) → S → (d : List ℕ) → List Call → Type 0 where
    no_calls : {ws : List ℕ} {s : S} {d : List ℕ} → Calls m ws s d []
    more_calls : {ws : List ℕ} {s : S} {d : List ℕ} {calls : List Call} (bl d' : List ℕ) (last : Bool) (r : ℕ) → d ≡ bl ++ d' → (last ≡ true → d' ≡ [])
        → (o : Outcome S) → o ≡ call_from m ws s bl last r → Calls m o.waiting o.state (o.rest ++ d') calls
        → Calls m ws s d (machine_call_seen bl last r o ∷ calls)
