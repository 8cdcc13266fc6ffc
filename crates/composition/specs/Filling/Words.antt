-- What the words of a text line lead to, as the code holds it. Assumes nothing.
use Rattle.std.specs.Prelude.{◌≡◌, Bool, true, false, ◌||◌, List, [], ◌∷◌, ◌++◌, ℕ, ◌≤◌, ◌<◌, replicate, Option, None, Some, Result, Ok, Err}
use Rattle.measure.specs.Counts.{cells_across}
use Rattle.rules.specs.Bytes.{fixed_blank}
use Rattle.rules.specs.Filling.{Word, word, leads}
use Rattle.rules.specs.Filling as rule
use Rattle.rules.specs.TextLines.{next_gap, TextLineCase, breaks, stands, fills, breaks_if}
use Rattle.fill.specs.Words.Parts.{Places}
use Rattle.fill.specs.Collected.Filled.{CollectedInvariant}
use Rattle.fill.specs.declared.collected.Overflow.{Overflow}
use Rattle.fill.specs.declared.words.WordAt.{WordAt}
use Rattle.settings.specs.declared.layout.Layout.{Layout}
use Rattle.input_stack.specs.declared.frames.What.{What}
use Rattle.input_stack.specs.declared.frames.What.TheVariants.{Others}
use Rattle.input_stack.specs.declared.stack.Stack.{Stack}
use Rattle.page.specs.declared.position.Page.{Page}
use Rattle.page.specs.declared.springs.Way.TheVariants.{On}
use Rattle.composition.specs.declared.page_rows.Collected.{Collected}
use Rattle.composition.specs.declared.page_rows.PageOutcome.{PageOutcome}

-- the words that are left are held
abbrev pub others_held : List Word → (gap : ℕ) → Option What
others_held [] g = None
others_held (w ∷ ws) g = Some (Others g)

-- the gap to what comes next
abbrev pub gap_behind : List Word → (gap : ℕ) → ℕ
gap_behind ws g = next_gap ws g

-- the collected line with so many cells and this gap behind it
abbrev pub longer_line : (count gap : ℕ) → Collected → Collected
longer_line n g c = record { there = true; indent = c.indent; room = c.room; length = n; next = cells_across g }

-- all words fitted
abbrev pub collected_to : (count gap : ℕ) → Layout → Page → Collected → Stack → PageOutcome
collected_to n g y p c s = record { way = On; layout = y; page = p; collected = longer_line n g c; stack = s; written = 0 }

-- the first word of a line, with its leading spaces as fixed blanks
abbrev pub leading_word : (lead : ℕ) → List ℕ → Word
leading_word n bs = word 0 (replicate n fixed_blank ++ bs)

-- a word of the line does not fit behind so many cells
pub record Overflows (line : List ℕ) (to : ℕ) (cells : List ℕ) (room gap : ℕ) (o : Overflow) : Type 0 where
  pub places : Places line o.to to
  pub word : o.from < o.to
  pub collected : CollectedInvariant cells o.length room
  pub small : gap ≤ 2

-- words were placed in so many cells
abbrev pub WordsFilled : (line : List ℕ) → (to : ℕ) → (cells : List ℕ) → (room gap : ℕ) → Result ℕ Overflow → Type 0
WordsFilled line to cells room gap (Ok n) = CollectedInvariant cells n room × (gap ≤ 2)
WordsFilled line to cells room gap (Err o) = Overflows line to cells room gap o

-- a word of the line that is to start a collected line
pub record WordStarts (line : List ℕ) (to lead gap : ℕ) (w : WordAt) : Type 0 where
  pub places : Places line w.from w.to
  pub high : w.to ≤ to
  pub few : to ≤ 512
  pub leads : lead ≤ w.from
  pub small : gap ≤ 2

-- a line that goes on behind a collected one has no leading spaces
abbrev pub Follows : (there : Bool) → List Word → Type 0
Follows true ws = leads ws ≡ false
Follows false ws = Unit

-- what a line of words asks for on a page that has started, by whether a line is collected, and by nf, ce and leading spaces
abbrev pub word_way : (there as_it_stands leads : Bool) → rule.Collected → TextLineCase
word_way true true l c = breaks c
word_way true false l c = breaks_if l c
word_way false true l c = stands
word_way false false l c = fills

-- whether a line is written before a line of words is dealt with
abbrev pub breaks_first : (there as_it_stands leads : Bool) → Bool
breaks_first true q l = l || q
breaks_first false q l = false

-- what a line of words asks for if none is
abbrev pub fresh_way : (as_it_stands : Bool) → TextLineCase
fresh_way true = stands
fresh_way false = fills
