-- Laws of tables: what holds of each of a list holds of the one that is found. Assumes nothing.
use Rattle.std.specs.Prelude.{◌≡◌, refl, Bool, true, false, List, [], ◌∷◌, ℕ, eqb, Option, None, Some}
use Rattle.std.proofs.Common.{ap}
use Rattle.rules.specs.Bytes.{first_where, entry_of, in_table, or_other, entry}

-- it holds of each of a list
abbrev pub Each : {A : Type 0} → (A → Type 0) → List A → Type 0
Each P [] = Unit
Each P (x ∷ xs) = P x × Each P xs

-- it holds of the one that is there, if one is
abbrev pub OfSome : {A : Type 0} → (A → Type 0) → Option A → Type 0
OfSome P None = Unit
OfSome P (Some a) = P a

-- of the first that passes a test
pub first_each : {A : Type 0} (P : A → Type 0) (test : A → Bool) (l : List A) → Each P l → OfSome P (first_where test l)
unfolding first_where
first_each P test [] h = tt
first_each P test (x ∷ xs) h = go (test x) (first_each P test xs h.1)
  where
    go : (t : Bool) → OfSome P (first_where test xs) → OfSome P (elim t [ true ↦ Some x | false ↦ first_where test xs ])
    go true i = h.0
    go false i = i

-- the one that is found passes the test
pub first_passes : {A : Type 0} (test : A → Bool) (l : List A) → OfSome (λ x. test x ≡ true) (first_where test l)
unfolding first_where
first_passes test [] = tt
first_passes test (x ∷ xs) = go (test x) refl (first_passes test xs)
  where
    go : (t : Bool) → test x ≡ t → OfSome (λ x. test x ≡ true) (first_where test xs) → OfSome (λ x. test x ≡ true) (elim t [ true ↦ Some x | false ↦ first_where test xs ])
    go true e h = e
    go false e h = h

-- what follows from what holds of the one that is there
pub some_map : {A : Type 0} (P Q : A → Type 0) (o : Option A) → OfSome P o → ((a : A) → o ≡ Some a → P a → Q a) → OfSome Q o
some_map P Q None h f = tt
some_map P Q (Some a) h f = f a refl h

else_of : {A : Type 0} (P : A → Type 0) (o : Option (ℕ × A)) (d : A) → OfSome (λ e. P e.1) o → P d → P (or_other (entry_of o) d)
else_of P None d h i = i
else_of P (Some e) d h i = h

-- of a byte's entry, if it holds of what all other bytes have too
pub entry_each : {A : Type 0} (P : A → Type 0) (t : List (ℕ × A)) (d : A) (b : ℕ) → Each (λ e. P e.1) t → P d → P (entry t d b)
unfolding first_where
entry_each P t d b h i = else_of P (first_where (λ e. eqb b e.0) t) d (first_each (λ e. P e.1) (λ e. eqb b e.0) t h) i

-- where none passes the test, none is first
pub first_none : {A : Type 0} (test : A → Bool) (l : List A) → Each (λ x. test x ≡ false) l → first_where test l ≡ None
unfolding first_where
first_none test [] h = refl
first_none test (x ∷ l) h = rw (first_where, h.0) (first_none test l h.1)

-- a byte that is none of a table's keys has no entry there
pub absent : {A : Type 0} (t : List (ℕ × A)) (b : ℕ) → Each (λ e. eqb b e.0 ≡ false) t → in_table t b ≡ None
unfolding first_where
absent {A} t b h = ap (λ (o : Option (ℕ × A)). entry_of o) (first_none (λ e. eqb b e.0) t h)
