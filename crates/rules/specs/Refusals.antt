-- A value that may be refused (document 01, 'Refusal numbers'). The number of each refusal stands where its case is judged. Assumes nothing.
use Rattle.std.specs.Prelude.{Bool, true, false, ℕ}

-- A value, or the number of the refusal that is earned in its place.
pub data Judged (A : Type 0) : Type 0 where
  value : A → Judged A
  bad : ℕ → Judged A

-- a value, if a test allows it
abbrev pub judge : {A : Type 0} → (allowed : Bool) → (refusal : ℕ) → A → Judged A
judge true n a = value a
judge false n a = bad n

-- "the first event that earns one decides": `x ← e` goes on with a value and keeps a refusal
infixl 10 ◌>>=◌
abbrev pub ◌>>=◌ : {A B : Type 0} → Judged A → (A → Judged B) → Judged B
value a >>= k = k a
bad n >>= k = bad n
