-- Moves within a column. Assumes nothing.
use Rattle.std.specs.Prelude.{List, [], ◌∷◌, ℕ, zero, suc}

-- something new at a place, with so many rows from there on each one place down, over the row that follows them
unfoldable pub inserted : {A : Type 0} → List A → (place moved : ℕ) → A → List A
inserted [] i k b = []
inserted (x ∷ l) (suc i) k b = x ∷ inserted l i k b
inserted (x ∷ l) zero zero b = b ∷ l
inserted (x ∷ l) zero (suc k) b = b ∷ inserted l zero k x
