-- Bytes written back with their escapes, behind those written before. Assumes nothing.
use Rattle.std.specs.Prelude.{◌≡◌, refl, Bool, true, false, List, [], ◌∷◌, ◌++◌, ℕ, ◌+◌, ◌*◌, ◌≤◌, eqb, length, take}
use Rattle.std.proofs.Common.{arith, length-append}
use Rattle.rules.specs.Bytes.{bytes, backslash, mark, fixed_blank, first_where, entry}
use Rattle.rules.specs.Escapes.{escaped}

-- so many bytes are written, and two more have room
pub record RoomForTwo (out : List ℕ) (at : ℕ) : Type 0 where
  pub long : length out ≡ 1024
  pub room : at + 2 ≤ 1024

-- the bytes l stand behind those written before
pub record PutBack (l out : List ℕ) (at r : ℕ) (out' : List ℕ) : Type 0 where
  pub is : take r out' ≡ take at out ++ l
  pub count : r ≡ at + length l
  pub long : length out' ≡ 1024

-- a backslash and a byte stand there
abbrev pub PairBehind : (byte : ℕ) (out : List ℕ) (at r : ℕ) (out' : List ℕ) → Type 0
PairBehind b out at r out' = PutBack (backslash ∷ b ∷ []) out at r out'

-- a byte stands there as it is written back
abbrev pub Behind : (byte : ℕ) (out : List ℕ) (at r : ℕ) (out' : List ℕ) → Type 0
Behind b out at r out' = PutBack (escaped (b ∷ [])) out at r out'

-- "ds after an if, write backslash, mark and fixed blank as \e, \& and backslash-space"
pub record WrittenBack (bytes : List ℕ) (r : ℕ) (out' : List ℕ) : Type 0 where
  pub is : take r out' ≡ escaped bytes
  pub fits : r ≤ 1024
  pub long : length out' ≡ 1024

-- a byte as it is written back
abbrev back : ℕ → List ℕ
unfolding first_where
back b = entry ((backslash, bytes "\\e") ∷ (mark, bytes "\\&") ∷ (fixed_blank, bytes "\\ ") ∷ []) (b ∷ []) b

back_short : (b : ℕ) → length (back b) ≤ 2
unfolding first_where
back_short b = go (eqb b backslash) (eqb b mark) (eqb b fixed_blank) refl refl refl
  where
    go : (s t u : Bool) → eqb b backslash ≡ s → eqb b mark ≡ t → eqb b fixed_blank ≡ u → length (back b) ≤ 2
    go true t u e f g = rw (first_where, e) (omega arith)
    go false true u e f g = rw (first_where, e, first_where, f) (omega arith)
    go false false true e f g = rw (first_where, e, first_where, f, first_where, g) (omega arith)
    go false false false e f g = rw (first_where, e, first_where, f, first_where, g) (omega arith)

-- A text is at most twice as long with its escapes.
pub escaped_length : (l : List ℕ) → length (escaped l) ≤ 2 * length l
unfolding escaped
escaped_length [] = omega arith
escaped_length (b ∷ l) = omega (arith, length-append (back b) (escaped l), back_short b, escaped_length l)
