-- The collected line as its array stands for it, and what placing words in it answers. Assumes nothing.
use Rattle.std.specs.Prelude.{◌≡◌, Result, Ok, Err, List, ℕ, ◌≤◌, ◌<◌, length, take, drop}
use Rattle.measure.specs.Counts.{across_of, cells_across}
use Rattle.rules.specs.Filling.{Collected, Word, word, words, width}
use Rattle.rules.specs.Filling as rules
use Rattle.fill.specs.Words.Parts.{bytes_between}
use Rattle.fill.specs.declared.collected.Overflow.{Overflow}

-- the collected line in the first cells of the array
abbrev pub collected_line : (indent room : ℕ) → (cells : List ℕ) → (count next : ℕ) → Collected
collected_line i r cs n g = record { indent = i; room = r; cells = take n cs; next = g }

-- a collected line stands in 512 cells, and no line is wider
pub record CollectedInvariant (cells : List ℕ) (count room : ℕ) : Type 0 where
  pub long : length cells ≡ 512
  pub few : count ≤ 512
  pub narrow : room ≤ 512

-- how many cells are collected
abbrev pub placed_count : Result ℕ Overflow → ℕ
placed_count (Ok n) = n
placed_count (Err o) = o.length

-- the rules' answer: the line, and if it is full the word that did not fit and the other words
abbrev pub placed_of : (indent room : ℕ) → (cells : List ℕ) → (next : ℕ) → (line : List ℕ) → (to : ℕ) → Result ℕ Overflow → rules.Placed
placed_of i r cs g line to (Ok n) = rules.all_placed (collected_line i r cs n g)
placed_of i r cs g line to (Err o) = rules.full (collected_line i r cs o.length g) (word (across_of o.gap) (bytes_between line o.from o.to)) (words (bytes_between line o.to to))

-- where the word that did not fit stands, its width, and that its gap is a count
abbrev pub GoodPlaced : (line : List ℕ) → (at to : ℕ) → Result ℕ Overflow → Type 0
GoodPlaced line at to (Ok n) = Unit {0}
GoodPlaced line at to (Err o) = (at ≤ o.from) × (o.from < o.to) × (o.to ≤ to) × (o.width ≡ cells_across (width (bytes_between line o.from o.to))) × (o.gap ≡ cells_across (across_of o.gap))

-- words joined the collected line until one did not fit; the cells behind it are as before
pub record PlacedTo (line : List ℕ) (at to : ℕ) (ws : List Word) (entry : List ℕ) (count room : ℕ) (r : Result ℕ Overflow) (exit : List ℕ) : Type 0 where
  pub is : (indent next : ℕ) → placed_of indent room exit next line to r ≡ rules.place (collected_line indent room entry count next) ws
  pub rest : drop (placed_count r) exit ≡ drop (placed_count r) entry
  pub cells : CollectedInvariant exit (placed_count r) room
  pub good : GoodPlaced line at to r
