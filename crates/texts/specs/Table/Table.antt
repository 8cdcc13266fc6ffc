-- The texts, as a store and the columns of their table stand for them. Assumes nothing.
use Rattle.std.specs.Prelude.{◌≡◌, refl, List, [], ◌∷◌, ℕ, zero, suc, ◌+◌, ◌≤◌, length, take, drop}
use Rattle.std.proofs.Common.{zero-le}
use Rattle.rules.specs.declared.Name.{Name}
use Rattle.rules.specs.declared.Kind.{Kind}
use Rattle.rules.specs.declared.Kind.TheVariants.{Macro, String}
use Rattle.rules.specs.Names.{two_bytes}
use Rattle.rules.specs.Texts.{Text, text}
unfoldable pub use Rattle.rules.specs.Columns.{zip_with}
pub use Rattle.rules.specs.Columns.{names_of, Names}

-- a kind by its code: 0 is a macro, any other a string
abbrev pub kind_of : ℕ → Kind
kind_of zero = Macro
kind_of (suc k) = String

-- the code of a kind
abbrev pub code_of : Kind → ℕ
code_of Macro = 0
code_of String = 1

-- Sanity: a kind is read as it was written.
pub kind_of_code : (k : Kind) → kind_of (code_of k) ≡ k
kind_of_code Macro = refl
kind_of_code String = refl

-- what the table says of a text
pub record TextRow : Type 0 where
  pub name : Name
  pub kind : Kind
  pub size : ℕ

abbrev pub text_row : Name → ℕ × ℕ → TextRow
text_row n x = record { name = n; kind = kind_of x.0; size = x.1 }

abbrev pub as_pair : ℕ → ℕ → ℕ × ℕ
as_pair k l = (k, l)

-- the first rows
abbrev pub text_rows : (firsts seconds kinds lengths : List ℕ) → (count : ℕ) → List TextRow
text_rows fs ss ks ls n = take n (zip_with text_row (zip_with two_bytes fs ss) (zip_with as_pair ks ls))

-- the sum of some lengths: the place of the text that follows them
unfoldable pub total_length : List ℕ → ℕ
total_length [] = 0
total_length (l ∷ ls) = l + total_length ls

-- a store cut into the texts of these rows, one after the other
unfoldable pub cut : (store : List ℕ) → List TextRow → List Text
cut st [] = []
cut st (r ∷ rs) = text r.name r.kind (take r.size st) ∷ cut (drop r.size st) rs

-- the texts of a store and its table
abbrev pub texts_of : (store firsts seconds kinds lengths : List ℕ) → (count : ℕ) → List Text
texts_of st fs ss ks ls n = cut st (text_rows fs ss ks ls n)

-- the texts lie within the store, and each column has 64 rows
pub record TextsInvariant (store firsts seconds kinds lengths : List ℕ) (count : ℕ) : Type 0 where
  pub names : Names firsts seconds count
  pub kinds_long : length kinds ≡ 64
  pub lengths_long : length lengths ≡ 64
  pub inside : total_length (take count lengths) ≤ length store

-- the first lengths are in the table, and their sum is a number of the code's
pub record TextStarts (lengths : List ℕ) (k : ℕ) : Type 0 where
  pub few : k ≤ 64
  pub fits : total_length (take k lengths) ≤ 18446744073709551615

-- No texts lie in any store.
pub lies_none : (st fs ss ks ls : List ℕ) → length fs ≡ 64 → length ss ≡ 64 → length ks ≡ 64 → length ls ≡ 64 → TextsInvariant st fs ss ks ls 0
unfolding total_length
lies_none st fs ss ks ls f s k l =
    record { names = record { firsts_long = f; seconds_long = s; few = zero-le }; kinds_long = k; lengths_long = l; inside = zero-le }
