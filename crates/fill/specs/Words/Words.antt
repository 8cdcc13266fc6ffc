-- What the readers of words answer, over the part of a line that is read. Assumes nothing.
use Rattle.std.specs.Prelude.{◌≡◌, Option, Some, None, Bool, true, false, List, [], ◌∷◌, ℕ, suc, ◌+◌, ◌-◌, ◌≤◌, ◌<◌, eqb, take}
use Rattle.measure.specs.Counts.{across_of, cells_across}
use Rattle.rules.specs.Bytes.{space}
use Rattle.rules.specs.Filling.{Word, word, words, width}
use Rattle.fill.specs.Words.Parts.{bytes_between}
use Rattle.fill.specs.declared.words.WordEnd.{WordEnd}
use Rattle.fill.specs.declared.words.WordAt.{WordAt}

abbrev pub suc_if : Bool → ℕ → ℕ
suc_if true n = suc n
suc_if false n = 0

abbrev pub suc_unless : Bool → ℕ → ℕ
suc_unless true n = 0
suc_unless false n = suc n

-- how many spaces lead
unfoldable pub spaces : List ℕ → ℕ
spaces [] = 0
spaces (b ∷ bs) = suc_if (eqb b space) (spaces bs)

-- how many bytes stand before the first space
unfoldable pub run_length : List ℕ → ℕ
run_length [] = 0
run_length (b ∷ bs) = suc_unless (eqb b space) (run_length bs)

-- the run without spaces at the front, its end and its width
pub record WordEndIs (line : List ℕ) (at to : ℕ) (r : WordEnd) : Type 0 where
  pub place : r.to ≡ at + run_length (bytes_between line at to)
  pub width : r.width ≡ cells_across (width (take (run_length (bytes_between line at to)) (bytes_between line at to)))
  pub low : at ≤ r.to
  pub high : r.to ≤ to

-- the words of a line by its first one and the place behind that
abbrev pub words_from : (line : List ℕ) → (to : ℕ) → Option WordAt → List Word
words_from line to (Some w) = word (across_of w.gap) (bytes_between line w.from w.to) ∷ words (bytes_between line w.to to)
words_from line to None = []

-- where a word stands, and its width
pub record WordIs (line : List ℕ) (at to : ℕ) (w : WordAt) : Type 0 where
  pub low : at ≤ w.from
  pub gap : w.gap ≡ cells_across (w.from - at)
  pub some : w.from < w.to
  pub high : w.to ≤ to
  pub width : w.width ≡ cells_across (width (bytes_between line w.from w.to))

abbrev pub GoodNext : (line : List ℕ) → (at to : ℕ) → Option WordAt → Type 0
GoodNext line at to (Some w) = WordIs line at to w
GoodNext line at to None = Unit {0}

-- whether there are no words
abbrev pub is_none : List Word → Bool
is_none [] = true
is_none (w ∷ ws) = false
