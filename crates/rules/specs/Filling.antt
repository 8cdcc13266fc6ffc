-- Words, the collected line and the row as printed (document 01, 'Filling').
use Rattle.std.specs.Prelude.{Bool, true, false, ◌||◌, List, [], ◌∷◌, ◌++◌, ℕ, zero, suc, ◌+◌, ◌-◌, ◌/◌, ◌%◌, leb, eqb, length, replicate, None, unwrap_or}
use Rattle.rules.specs.Bytes.{byte, newline, space, mark, fixed_blank, gap_start}
use Rattle.rules.specs.Settings.{Across, Layout}
use Rattle.rules.specs.LayoutSetters.{with_total}

-- a word, and the gap before it
pub record Word : Type 0 where
  pub gap : Across
  pub bytes : List ℕ

-- a gap and the word after it
abbrev pub word : Across → List ℕ → Word
word g bs = record { gap = g; bytes = bs }

-- "A word is a run without spaces. Gaps inside a line are kept; trailing spaces are dropped":
-- the words of an expanded line, read from its end; the first one's gap is the line's leading spaces.
abbrev pub join_word : (gap : Across) → ℕ → Word → List Word → List Word
join_word zero b w ws = word 0 (b ∷ w.bytes) ∷ ws
join_word (suc g) b w ws = word 0 (b ∷ []) ∷ w ∷ ws

-- a byte before words: a space widens a gap, any other is a word's
abbrev pub join_byte : (isSpace : Bool) → ℕ → List Word → List Word
join_byte true b [] = []
join_byte true b (w ∷ ws) = word (suc w.gap) w.bytes ∷ ws
join_byte false b [] = word 0 (b ∷ []) ∷ []
join_byte false b (w ∷ ws) = join_word w.gap b w ws

-- "A word is a run without spaces": the words of a line
unfoldable pub words : List ℕ → List Word
words [] = []
words (b ∷ bs) = join_byte (eqb b space) b (words bs)

-- "Leading spaces break, then stand as fixed blanks"
abbrev pub leads : List Word → Bool
leads [] = false
leads (w ∷ ws) = leb 1 w.gap

-- "then stand as fixed blanks": leading spaces become part of the first word
abbrev pub standing : List Word → List Word
standing [] = []
standing (w ∷ ws) = word 0 (replicate w.gap fixed_blank ++ w.bytes) ∷ ws

-- the same words with this gap before the first
abbrev pub after : Across → List Word → List Word
after g [] = []
after g (w ∷ ws) = word g w.bytes ∷ ws

-- "the gap between input lines is 1, or 2 after a line ending in . ? !"
abbrev pub is_stop : ℕ → Bool
is_stop b = eqb b (byte ".") || (eqb b (byte "?") || eqb b (byte "!"))

-- "1, or 2"
abbrev pub gap_if : (stop : Bool) → Across
gap_if true = 2
gap_if false = 1

-- what a word ends in
abbrev pub last_byte : List ℕ → ℕ
last_byte [] = 0
last_byte (b ∷ []) = b
last_byte (b ∷ c ∷ bs) = last_byte (c ∷ bs)

-- the gap that a line's ending asks for
abbrev pub gap_after : List Word → Across
gap_after [] = 1
gap_after (w ∷ []) = gap_if (is_stop (last_byte w.bytes))
gap_after (w ∷ v ∷ ws) = gap_after (v ∷ ws)

-- "a mark of no width": the cells of a word
abbrev pub count_if : (isMark : Bool) → Across → Across
count_if true n = n
count_if false n = suc n

-- "a mark of no width": the cells of bytes
unfoldable pub width : List ℕ → Across
width [] = 0
width (b ∷ bs) = count_if (eqb b mark) (width bs)

-- the cells of words and gaps
unfoldable pub span : List Word → Across
span [] = 0
span (w ∷ ws) = w.gap + width w.bytes + span ws

-- "Output is .. text": marks are not printed, fixed blanks are spaces
abbrev pub printed_byte : (isMark isBlank : Bool) → ℕ → List ℕ → List ℕ
printed_byte true f b bs = bs
printed_byte false true b bs = space ∷ bs
printed_byte false false b bs = b ∷ bs

-- what is printed of bytes
unfoldable pub printed : List ℕ → List ℕ
printed [] = []
printed (b ∷ bs) = printed_byte (eqb b mark) (eqb b fixed_blank) b (printed bs)

-- The collected line: "it and the indent printed are fixed when a line's first word is placed".
pub record Collected : Type 0 where
  pub indent : Across
  pub room : Across
  -- what is printed of its words and gaps, cell by cell; the first cell of each gap is `gap_start`
  pub cells : List ℕ
  -- the gap to the next input line's first word
  pub next : Across

-- the cells of a gap: adjusting finds the gap by the first of them
abbrev pub gap_cells : Across → List ℕ
gap_cells zero = []
gap_cells (suc g) = gap_start ∷ replicate g space

-- the collected line with another gap to the next input line
abbrev pub with_next : Across → Collected → Collected
with_next g c = record { indent = c.indent; room = c.room; cells = c.cells; next = g }

-- the collected line with one word more
abbrev pub joined : Word → Collected → Collected
joined w c = record { indent = c.indent; room = c.room; cells = c.cells ++ (gap_cells w.gap ++ printed w.bytes); next = c.next }

-- the indent printed: the ti total if one is kept
abbrev pub indent_now : Layout → Across
indent_now y = unwrap_or y.total y.indent.now

-- "Room is ll minus indent, 0 if that is negative"
abbrev pub room_now : Layout → Across
room_now y = y.line.now - indent_now y

-- a line's first word is placed, whatever its width, and uses the ti total up
abbrev pub begin : Layout → Word → Collected
begin y w = record { indent = indent_now y; room = room_now y; cells = printed w.bytes; next = 1 }

-- the ti total is used up
abbrev pub begun : Layout → Layout
begun y = with_total None y

-- "A word joins if width + gap + word is at most room; else the line is written and the word starts the next"
pub data Placed : Type 0 where
  all_placed : Collected → Placed
  -- the line to be written, the word that did not fit, and the other words
  full : Collected → Word → List Word → Placed

-- "width + gap + word is at most room"
abbrev pub fits : Collected → Word → Bool
fits c w = leb (length c.cells + w.gap + width w.bytes) c.room

-- words join until one does not fit
unfoldable pub place : Collected → List Word → Placed
place c [] = all_placed c
place c (w ∷ ws) = elim (fits c w) [ true ↦ place (joined w c) ws | false ↦ full c w ws ]

-- "k gaps": those of a collected line
abbrev pub count_gap : (is_gap : Bool) → ℕ → ℕ
count_gap true n = suc n
count_gap false n = n

-- the gaps of a collected line
unfoldable pub gaps : List ℕ → ℕ
gaps [] = 0
gaps (b ∷ bs) = count_gap (eqb b gap_start) (gaps bs)

-- "the last e mod k gaps one more": those behind the first `few`
abbrev pub more_if : (few : ℕ) → Across
more_if zero = 1
more_if (suc n) = 0

-- a cell of a collected line before the rest: a gap's first one is widened, any other stands
abbrev pub spread_cell : (is_gap : Bool) → (more : Across) → ℕ → List ℕ → List ℕ
spread_cell true n b bs = replicate (suc n) space ++ bs
spread_cell false n b bs = b ∷ bs

-- how many gaps from here on have no cell more
abbrev pub few_after : (is_gap : Bool) → (few : ℕ) → ℕ
few_after true zero = 0
few_after true (suc n) = n
few_after false n = n

-- "share the missing e cells over k gaps: e/k each, the last e mod k gaps one more": the first `few` gaps have no cell more
unfoldable pub spread : (each : Across) (few : ℕ) → List ℕ → List ℕ
spread each few [] = []
spread each few (b ∷ bs) = spread_cell (eqb b gap_start) (each + more_if few) b (spread each (few_after (eqb b gap_start) few) bs)

-- "a line without gaps stays as it is"
abbrev pub share : (e : Across) → (k : ℕ) → List ℕ → List ℕ
share e zero bs = bs
share e (suc k) bs = spread (e / suc k) (suc k - e % suc k) bs

-- a collected line with its gaps as they are
abbrev pub level : List ℕ → List ℕ
level bs = spread 0 (length bs) bs

-- "with adjusting on"
abbrev pub adjusted : (adjusting : Bool) → Collected → List ℕ
adjusted true c = share (c.room - length c.cells) (gaps c.cells) c.cells
adjusted false c = level c.cells

-- words and their gaps as text
unfoldable pub spelled : List Word → List ℕ
spelled [] = []
spelled (w ∷ ws) = replicate w.gap space ++ (w.bytes ++ spelled ws)

-- a byte, unless it is a blank at the end
abbrev pub unless_blank : Bool → ℕ → List ℕ → List ℕ
unless_blank true b [] = []
unless_blank true b (c ∷ cs) = b ∷ c ∷ cs
unless_blank false b cs = b ∷ cs

-- "blanks at a line's end are not written"
unfoldable pub trimmed : List ℕ → List ℕ
trimmed [] = []
trimmed (b ∷ bs) = unless_blank (eqb b space) b (trimmed bs)

-- "Output is po, indent, text, newline"
abbrev pub row : (blanks : Across) → List ℕ → List ℕ
row n bs = trimmed (replicate n space ++ bs) ++ newline ∷ []

-- a collected line as a row: written by a break, or for overflow and then adjusted
abbrev pub broken_row : Layout → Collected → List ℕ
broken_row y c = row (y.offset.now + c.indent) (level c.cells)

-- "Lines written for overflow", as a row
abbrev pub full_row : Layout → Collected → List ℕ
full_row y c = row (y.offset.now + c.indent) (adjusted y.adjusting c)

-- "With nf each line is written as it stands"; ce: "left blanks half the spare room, cut down, none if the line is wider"
abbrev pub left : (centred : ℕ) → (spare : Across) → Across
left zero spare = 0
left (suc n) spare = spare / 2

-- a line of nf or ce, as a row
abbrev pub standing_row : Layout → List Word → List ℕ
standing_row y ws = row (y.offset.now + indent_now y + left y.centred (room_now y - span ws)) (printed (spelled ws))
