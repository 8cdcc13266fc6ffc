-- Laws of lines, for code that looks for the newline byte by byte. Assumes nothing.
use mathlib.Core.Path.{◌≡◌, refl, ap}
use mathlib.Core.Bool.{Bool, true, false}
use mathlib.Core.List.{List, [], ◌∷◌}
use Prim.Native.Nat.{ℕ, suc, ◌+◌, ◌≤◌}
use native.Mathlib.Numerals.{add-one}
use native.Mathlib.Omega.{arith}
use lib.Dec.{eqb}
use lib.ListN.{length, take}
use borrow.Author.Tests.{eq-eqb, ne_eqb}
use Rattle.texts.specs.Lines.Lines.{line_before, first_line}

pub line_none : length (first_line []) ≡ 0
unfolding first_line
line_none = refl

-- at a newline the line has ended
pub line_stops : (b : ℕ) (l : List ℕ) → b ≡ 10 → length (first_line (b ∷ l)) ≡ 0
unfolding first_line
line_stops b l e = rw (eq-eqb b 10 e)

-- with another byte it goes on
pub line_goes : (b : ℕ) (l : List ℕ) → (b ≡ 10 → ⊥) → length (first_line (b ∷ l)) ≡ length (first_line l) + 1
unfolding first_line
line_goes b l e = rw (ne_eqb b 10 e, add-one (length (first_line l)))

pub line_short : (l : List ℕ) → length (first_line l) ≤ length l
unfolding first_line
line_short [] = omega arith
line_short (b ∷ l) = go (eqb b 10) (line_short l)
  where
    go : (t : Bool) → length (first_line l) ≤ length l → length (line_before t b (first_line l)) ≤ suc (length l)
    go true h = omega arith
    go false h = omega arith

-- a line is the front of its text
pub line_front : (l : List ℕ) → take (length (first_line l)) l ≡ first_line l
unfolding first_line
line_front [] = refl
line_front (b ∷ l) = go (eqb b 10) (line_front l)
  where
    go : (t : Bool) → take (length (first_line l)) l ≡ first_line l
        → take (length (line_before t b (first_line l))) (b ∷ l) ≡ line_before t b (first_line l)
    go true e = refl
    go false e = ap (λ m. b ∷ m) e
