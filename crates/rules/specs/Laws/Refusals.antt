-- Laws of values that may be refused. Assumes nothing.
use Rattle.std.specs.Prelude.{◌≡◌, refl, Bool, true, false, ◌&&◌, ℕ}
use Rattle.std.proofs.Common.{subst, arith}
use Rattle.std.proofs.lemmas.Bool.{false≢true}
use Rattle.rules.specs.Refusals.{Judged, value, bad, judge, ◌>>=◌}

-- A judged value is the one that was offered, and its test allowed it.
pub judge_value : {A : Type 0} (t : Bool) (n : ℕ) (a b : A) → judge t n a ≡ value b → (t ≡ true) × (a ≡ b)
judge_value true n a b h = (refl, cc)
judge_value false n a b h = let z : ◌≡◌ {A = ℕ} 0 1 = cc in absurd (omega arith)

-- A test of two parts that allows: both parts do.
pub both : (a b : Bool) → (a && b) ≡ true → (a ≡ true) × (b ≡ true)
both true true h = (refl, refl)
both true false h = absurd (false≢true h)
both false b h = absurd (false≢true h)

-- what holds of a value, if it is not refused
pub data Every {A : Type 0} (P : A → Type 0) : Judged A → Type 0 where
  every_value : {a : A} → P a → Every P (value a)
  every_refused : {n : ℕ} → Every P (bad n)

-- of what follows a value, if it holds whatever the value
pub every : {A B : Type 0} {P : B → Type 0} (j : Judged A) (k : A → Judged B) → ((a : A) → Every P (k a)) → Every P (j >>= k)
every (value a) k f = f a
every (bad n) k f = every_refused

-- of what follows a value, by what holds of the value
pub every_of : {A B : Type 0} {Q : A → Type 0} {P : B → Type 0} {j : Judged A} (k : A → Judged B) → Every Q j → ((a : A) → Q a → Every P (k a)) → Every P (j >>= k)
every_of k (every_value {a = a} h) f = f a h
every_of k every_refused f = every_refused

-- of a judged value, whatever the test
pub judge_every : {A : Type 0} {P : A → Type 0} (t : Bool) (n : ℕ) (a : A) → P a → Every P (judge t n a)
judge_every true n a h = every_value h
judge_every false n a h = every_refused

-- of a judged value, by its test
pub tested_every : {A : Type 0} {P : A → Type 0} (t : Bool) (n : ℕ) (a : A) → (t ≡ true → P a) → Every P (judge t n a)
tested_every true n a h = every_value (h refl)
tested_every false n a h = every_refused

-- what follows from what holds of every value
pub every_map : {A : Type 0} {P Q : A → Type 0} {j : Judged A} → Every P j → ((a : A) → P a → Q a) → Every Q j
every_map (every_value {a = a} h) f = every_value (f a h)
every_map every_refused f = every_refused

abbrev Held : {A : Type 0} (P : A → Type 0) → Judged A → Type 0
Held P (value a) = P a
Held P (bad n) = Unit

held : {A : Type 0} {P : A → Type 0} {j : Judged A} → Every P j → Held P j
held (every_value h) = h
held every_refused = tt

-- of the value that is given
pub of_value : {A : Type 0} {P : A → Type 0} {j : Judged A} {a : A} → Every P j → j ≡ value a → P a
of_value {P = P} h e = subst (Held P) e (held h)

-- two ways to go on are one, if they agree on every value that is given
pub same_after : {A B : Type 0} {P : A → Type 0} {j : Judged A} (f g : A → Judged B) → Every P j → ((a : A) → P a → f a ≡ g a) → j >>= f ≡ j >>= g
same_after f g (every_value {a = a} h) e = e a h
same_after f g every_refused e = refl
