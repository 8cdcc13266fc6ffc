-- Laws of a session's closing and of the bytes it takes. Assumes nothing.
use Rattle.std.specs.Prelude.{◌≡◌, refl, false, ◌&&◌, List, [], ◌∷◌, ◌++◌, ℕ, suc, ◌<◌, ◌≤◌, leb, length, None}
use Rattle.std.proofs.Common.{arith, lt-ltb, le-ltb, le-leb, ne_eqb}
use Rattle.std.proofs.lemmas.Bool.{lt-leb}
use Rattle.stream.specs.Answers.{Closing, refused}
use Rattle.stream.specs.Machine.{closed}
use Rattle.rules.specs.Printers.{Printer}
use Rattle.rules.specs.Bytes.{newline}
use Rattle.rules.specs.State.{State, fresh, close, refuse}
use Rattle.rules.specs.StateSetters.{input, with_input}
use Rattle.rules.specs.Session.{begun_by, with_begun, gather, take_byte, step}

-- A closed state gives its answer.
pub step_close : (p : Printer) (a : Closing) (s : State) → step p (close a s) ≡ closed a
unfolding step
step_close p a s = refl

-- Sanity: a refusal gives its number and the line.
pub step_refuse : (p : Printer) (n : ℕ) (s : State) → step p (refuse n s) ≡ closed (refused n s.input.line)
unfolding step
step_refuse p n s = refl

-- Sanity: a closing drops the collected line.
pub close_drops : (a : Closing) (s : State) → (close a s).collected ≡ None
close_drops a s = refl

-- Sanity: "A refusal drops the collected line".
pub refuse_drops : (n : ℕ) (s : State) → (refuse n s).collected ≡ None
refuse_drops n s = refl

-- To begin a source line takes none of its bytes away.
pub begun_gathered : (s : State) → (with_begun s).input.gathered ≡ s.input.gathered
begun_gathered s = go s.input.gathered refl
  where
    go : (l : List ℕ) → s.input.gathered ≡ l → (begun_by l s.input).gathered ≡ l
    go [] h = refl
    go (b ∷ l) h = h

-- With a source line's first byte its number goes up, and the count of stored lines starts again.
pub begun_first : (s : State) → s.input.gathered ≡ []
    → with_begun s ≡ with_input (input [] (suc s.input.line) s.input.ended 0 s.input.stack) s
begun_first s h = rw h

-- With its other bytes nothing changes.
pub begun_later : (s : State) → 0 < length s.input.gathered → with_begun s ≡ s
begun_later s h = go s.input.gathered h
  where
    go : (l : List ℕ) → 0 < length l → with_input (begun_by l s.input) s ≡ s
    go [] h = absurd (omega arith)
    go (b ∷ l) h = refl

-- "12: past 1,000,000 source lines", whatever the byte.
pub take_past : (b : ℕ) (s : State) → 1000000 < (with_begun s).input.line → take_byte b s ≡ refuse 12 (with_begun s)
unfolding take_byte
take_past b s h = rw (take_byte, lt-ltb 1000000 (with_begun s).input.line h)

-- A newline ends the line, which is then to be dealt with.
pub take_newline : (s : State) → (with_begun s).input.line ≤ 1000000 → take_byte newline s ≡ gather [] (fresh s.input.gathered ∷ []) (with_begun s)
unfolding take_byte
take_newline s h = rw (take_byte, le-ltb 1000000 (with_begun s).input.line h, begun_gathered s)

-- "3: a source line .. passes 512 bytes", whatever the byte but a newline.
pub take_long : (b : ℕ) (s : State) → (with_begun s).input.line ≤ 1000000 → (b ≡ newline → ⊥) → 512 ≤ length s.input.gathered
    → take_byte b s ≡ refuse 3 (with_begun s)
unfolding take_byte
take_long b s h d i =
    rw (take_byte, le-ltb 1000000 (with_begun s).input.line h, ne_eqb b newline d, begun_gathered s, le-leb 512 (length s.input.gathered) i)

-- "2: a source byte other than 10 and 32 to 126".
pub take_bad : (b : ℕ) (s : State) → (with_begun s).input.line ≤ 1000000 → (b ≡ newline → ⊥) → length s.input.gathered < 512
    → (leb 32 b && leb b 126) ≡ false → take_byte b s ≡ refuse 2 (with_begun s)
unfolding take_byte
take_bad b s h d i e =
    rw (take_byte, le-ltb 1000000 (with_begun s).input.line h, ne_eqb b newline d, begun_gathered s, lt-leb 512 (length s.input.gathered) i, e)

-- Any other byte is kept behind those before it.
pub take_keeps : (b : ℕ) (s : State) → (with_begun s).input.line ≤ 1000000 → length s.input.gathered < 512 → 32 ≤ b → b ≤ 126
    → take_byte b s ≡ gather (s.input.gathered ++ b ∷ []) [] (with_begun s)
unfolding take_byte
take_keeps b s h i j k =
    rw
    (take_byte, le-ltb 1000000 (with_begun s).input.line h, ne_eqb b newline (λ e. omega arith), begun_gathered s, lt-leb 512 (length s.input.gathered) i, le-leb 32 b j, le-leb b 126 k)
    (rw (begun_gathered s))
