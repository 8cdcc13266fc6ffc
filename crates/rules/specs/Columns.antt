-- Tables whose columns lie in arrays of their own: two columns as one, the names in them, and the laws of this. Assumes nothing.
use Rattle.std.specs.Prelude.{◌≡◌, length, take, get_or, set}
use Rattle.std.proofs.Math.Path.{refl, ap}
use mathlib.Core.List.{List, [], ◌∷◌}
use Prim.Native.Nat.{ℕ, zero, suc, ◌≤◌}
use Rattle.std.proofs.Common.{arith}
use Rattle.rules.specs.declared.Name.{Name}
use Rattle.rules.specs.Names.{two_bytes}

-- two columns as one, row by row
unfoldable pub zip_with : {A B C : Type 0} → (A → B → C) → List A → List B → List C
zip_with f [] ys = []
zip_with f (a ∷ xs) [] = []
zip_with f (a ∷ xs) (b ∷ ys) = f a b ∷ zip_with f xs ys

-- the names in the first rows
abbrev pub names_of : (firsts seconds : List ℕ) → (count : ℕ) → List Name
names_of fs ss n = take n (zip_with two_bytes fs ss)

-- the columns of names have all their rows, and the table has no more
pub record Names (firsts seconds : List ℕ) (count : ℕ) : Type 0 where
  pub firsts_long : length firsts ≡ 64
  pub seconds_long : length seconds ≡ 64
  pub few : count ≤ 64

-- Two columns of one length.
module _ {A B C : Type 0} (f : A → B → C) where
  pub zip_at : (xs : List A) (ys : List B) (i : ℕ) (a : A) (b : B) → length xs ≡ length ys → get_or (zip_with f xs ys) i (f a b) ≡ f (get_or xs i a) (get_or ys i b)
  unfolding zip_with
  zip_at [] [] i a b e = refl
  zip_at [] (y ∷ ys) i a b e = absurd (omega arith)
  zip_at (x ∷ xs) [] i a b e = absurd (omega arith)
  zip_at (x ∷ xs) (y ∷ ys) zero a b e = refl
  zip_at (x ∷ xs) (y ∷ ys) (suc i) a b e = zip_at xs ys i a b (omega arith)

  pub zip_length : (xs : List A) (ys : List B) → length xs ≡ length ys → length (zip_with f xs ys) ≡ length xs
  unfolding zip_with
  zip_length [] ys e = refl
  zip_length (x ∷ xs) [] e = absurd (omega arith)
  zip_length (x ∷ xs) (y ∷ ys) e = ap suc (zip_length xs ys (omega arith))

  -- a row of both that is set is a row of the whole
  pub zip_set : (xs : List A) (ys : List B) (i : ℕ) (a : A) (b : B) → zip_with f (set xs i a) (set ys i b) ≡ set (zip_with f xs ys) i (f a b)
  unfolding zip_with
  zip_set [] ys i a b = refl
  zip_set (x ∷ xs) [] zero a b = refl
  zip_set (x ∷ xs) [] (suc i) a b = refl
  zip_set (x ∷ xs) (y ∷ ys) zero a b = refl
  zip_set (x ∷ xs) (y ∷ ys) (suc i) a b = ap (λ l. f x y ∷ l) (zip_set xs ys i a b)
