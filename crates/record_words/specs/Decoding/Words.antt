-- The parts of a record that are no arrays, as 68 plain words: which words a part is written as, and which part any words are read as. Assumes nothing.
use Rattle.std.specs.Prelude.{◌≡◌, Option, Some, None, Bool, true, false, cond, List, [], ◌∷◌, ◌++◌, ℕ, zero, suc, ◌+◌, ◌*◌, ◌/◌, ◌%◌, ◌<◌, ◌≤◌, min, eqb, length, get_or, ℤ, pos, negsuc}
use Rattle.measure.specs.declared.Cells.{Cells}
use Rattle.measure.specs.declared.Rows.{Rows}
use Rattle.measure.specs.Counts.{nat_of, across_of, cells_across}
use Rattle.rules.specs.declared.Name.{Name}
use Rattle.rules.specs.declared.Trap.{Trap}
use Rattle.settings.specs.declared.lengths.Setting.{Setting}
use Rattle.settings.specs.declared.layout.Layout.{Layout}
use Rattle.page.specs.declared.position.Page.{Page}
use Rattle.composition.specs.declared.page_rows.Collected.{Collected}
use Rattle.traps.specs.declared.table.Planted.{Planted}
use Rattle.state.specs.declared.Opening.{Opening}
use Rattle.source_line.specs.declared.Source.{Source}
use Rattle.state.specs.declared.Status.{Status}
use Rattle.record.specs.declared.RecordCore.{RecordCore}
use Rattle.record.specs.declared.Waiting.{Waiting}
use Rattle.record.specs.declared.Closing.{Closing}
use Rattle.record.specs.declared.Closing.TheVariants as closing
use Rattle.record_words.specs.declared.decoding.Counts.{Counts}

-- WRITTEN

-- a count, or the largest word if it is larger than any
abbrev pub word_of : ℕ → ℤ
word_of n = pos (min n 2147483647)

abbrev pub flag_word : Bool → ℤ
flag_word true = pos 1
flag_word false = pos 0

abbrev pub name_to_word : Name → ℤ
name_to_word n = word_of (n.first * 256 + n.second)

abbrev pub total_tag : Option Cells → ℤ
total_tag (Some c) = pos 1
total_tag None = pos 0

abbrev pub total_value : Option Cells → ℤ
total_value (Some c) = c.0
total_value None = pos 0

abbrev pub closing_tag : Closing → ℤ
closing_tag closing.Open = pos 0
closing_tag closing.Done = pos 1
closing_tag (closing.Refused n l) = pos 2

abbrev pub closing_number : Closing → ℤ
closing_number closing.Open = pos 0
closing_number closing.Done = pos 0
closing_number (closing.Refused n l) = word_of n

abbrev pub closing_line : Closing → ℤ
closing_line closing.Open = pos 0
closing_line closing.Done = pos 0
closing_line (closing.Refused n l) = word_of l

-- words 0 to 11
abbrev pub layout_words : Layout → List ℤ
layout_words l =
    l.line.now.0 ∷ l.line.former.0 ∷ l.indent.now.0 ∷ l.indent.former.0 ∷ l.offset.now.0 ∷ l.offset.former.0 ∷ l.page.0
    ∷ total_tag l.total ∷ total_value l.total ∷ flag_word l.filling ∷ flag_word l.adjusting ∷ word_of l.centred ∷ []

-- words 12 to 14
abbrev pub page_words : Page → List ℤ
page_words p = word_of p.number ∷ p.used.0 ∷ flag_word p.last ∷ []

-- words 15 to 19
abbrev pub collected_words : Collected → List ℤ
collected_words c = flag_word c.there ∷ c.indent.0 ∷ c.room.0 ∷ word_of c.length ∷ word_of (across_of c.next) ∷ []

-- words 20 to 22
abbrev pub counts_words : Counts → List ℤ
counts_words n = word_of n.depth ∷ word_of n.texts ∷ word_of n.registers ∷ []

-- words 23 to 25
abbrev pub opening_words : Opening → List ℤ
opening_words o = flag_word o.there ∷ name_to_word o.name ∷ word_of o.length ∷ []

-- words 26 to 29
abbrev pub source_words : Source → List ℤ
source_words s = word_of s.line ∷ word_of s.length ∷ flag_word s.ended ∷ word_of s.stored ∷ []

-- words 30 and 31
abbrev pub waiting_words : Waiting → List ℤ
waiting_words w = word_of w.at ∷ word_of w.end ∷ []

-- words 32 to 34
abbrev pub closing_words : Closing → List ℤ
closing_words k = closing_tag k ∷ closing_number k ∷ closing_line k ∷ []

-- a trap's place and its name
abbrev pub trap_words : List Trap → List ℤ
trap_words [] = []
trap_words (t ∷ ts) = t.place.0 ∷ name_to_word t.name ∷ trap_words ts

-- word 35, and words 36 to 67
abbrev pub planted_words : Planted → List ℤ
planted_words p = word_of p.count ∷ trap_words p.traps

-- THE WORDS of a record's parts
abbrev pub words_of : Layout → Page → Collected → Counts → Opening → Source → Waiting → Closing → Planted → List ℤ
words_of l p c n o s w k t =
    layout_words l ++ page_words p ++ collected_words c ++ counts_words n ++ opening_words o ++ source_words s ++ waiting_words w ++ closing_words k ++ planted_words t

-- READ: whatever the words are

abbrev pub word_at : List ℤ → ℕ → ℤ
word_at ws i = get_or ws i (pos 0)

-- a count: none is below 0
abbrev pub count_at : List ℤ → ℕ → ℕ
count_at ws i = nat_of (word_at ws i)

-- any word but 0 is true
abbrev pub is_set : ℤ → Bool
is_set (pos zero) = false
is_set (pos (suc n)) = true
is_set (negsuc n) = true

abbrev pub cells_at : List ℤ → ℕ → Cells
cells_at ws i = record { 0 = word_at ws i }

abbrev pub rows_at : List ℤ → ℕ → Rows
rows_at ws i = record { 0 = word_at ws i }

abbrev pub setting_at : List ℤ → ℕ → Setting
setting_at ws i = record { now = cells_at ws i; former = cells_at ws (i + 1) }

-- a name from its number, at most 65535
abbrev pub name_from : ℕ → Name
name_from n = record { first = n / 256; second = n % 256 }

abbrev pub name_at : List ℤ → ℕ → Name
name_at ws i = name_from (min (count_at ws i) 65535)

abbrev pub total_by : Bool → Cells → Option Cells
total_by true c = Some c
total_by false c = None

abbrev pub layout_in : List ℤ → Layout
layout_in ws = record {
  line = setting_at ws 0;
  indent = setting_at ws 2;
  offset = setting_at ws 4;
  page = rows_at ws 6;
  total = total_by (is_set (word_at ws 7)) (cells_at ws 8);
  filling = is_set (word_at ws 9);
  adjusting = is_set (word_at ws 10);
  centred = count_at ws 11;
}

abbrev pub page_in : List ℤ → Page
page_in ws = record { number = count_at ws 12; used = rows_at ws 13; last = is_set (word_at ws 14) }

abbrev pub collected_in : List ℤ → Collected
collected_in ws = record { there = is_set (word_at ws 15); indent = cells_at ws 16; room = cells_at ws 17; length = count_at ws 18; next = cells_across (count_at ws 19) }

abbrev pub counts_in : List ℤ → Counts
counts_in ws = record { depth = count_at ws 20; texts = count_at ws 21; registers = count_at ws 22 }

abbrev pub opening_in : List ℤ → Opening
opening_in ws = record { there = is_set (word_at ws 23); name = name_at ws 24; length = count_at ws 25 }

abbrev pub source_from_words : List ℤ → Source
source_from_words ws = record { line = count_at ws 26; length = count_at ws 27; ended = is_set (word_at ws 28); stored = min (count_at ws 29) 65535 }

abbrev pub waiting_in : List ℤ → Waiting
waiting_in ws = record { at = count_at ws 30; end = count_at ws 31 }

-- tag 0 is open, 1 is done, and any other refused
abbrev pub closing_by : (set : Bool) → (tag number line : ℕ) → Closing
closing_by false t n l = closing.Open
closing_by true t n l = cond (eqb t 1) closing.Done (closing.Refused n l)

abbrev pub closing_in : List ℤ → Closing
closing_in ws = closing_by (is_set (word_at ws 32)) (count_at ws 32) (min (count_at ws 33) 255) (count_at ws 34)

abbrev pub trap_at : List ℤ → ℕ → Trap
trap_at ws i = record { place = rows_at ws i; name = name_at ws (i + 1) }

-- so many traps, from a word on
abbrev pub traps_from : (count at : ℕ) → List ℤ → List Trap
traps_from zero i ws = []
traps_from (suc n) i ws = trap_at ws i ∷ traps_from n (i + 2) ws

abbrev pub planted_in : List ℤ → Planted
planted_in ws = record { traps = traps_from 16 36 ws; count = count_at ws 35 }

-- WHAT THE TYPES OF THE PARTS SAY: a byte is a byte, and an array has its length

-- a count that fits a word
abbrev pub Short : ℕ → Type 0
Short n = n ≤ 2147483647

-- a name of two bytes
pub record TwoByteName (n : Name) : Type 0 where
  pub first : n.first ≤ 255
  pub second : n.second ≤ 255

abbrev pub refusal_number : Closing → ℕ
refusal_number closing.Open = 0
refusal_number closing.Done = 0
refusal_number (closing.Refused n l) = n

abbrev pub blank_trap : Trap
blank_trap = record { place = record { 0 = pos 0 }; name = record { first = 0; second = 0 } }

-- the names of traps
abbrev pub AllNamed : List Trap → Type 0
AllNamed ts = (i : ℕ) → i < length ts → TwoByteName (get_or ts i blank_trap).name

-- the words of all parts, and what their types say
pub record WordsWritten (l : Layout) (p : Page) (c : Collected) (n : Counts) (o : Opening) (s : Source) (w : Waiting) (k : Closing) (t : Planted) (ws : List ℤ) : Type 0 where
  pub are : ws ≡ words_of l p c n o s w k t
  pub opening_named : TwoByteName o.name
  pub stored_short : s.stored ≤ 65535
  pub number_short : refusal_number k ≤ 255
  pub traps_long : length t.traps ≡ 16
  pub traps_named : AllNamed t.traps

-- ALL OF A PLACE

-- the place of words
abbrev pub core_from_words : List ℤ → RecordCore
core_from_words ws = record {
  status = record {
    layout = layout_in ws;
    page = page_in ws;
    collected = collected_in ws;
    planted = planted_in ws;
    stack = record { depth = (counts_in ws).depth };
    texts = (counts_in ws).texts;
    opening = opening_in ws;
    registers = (counts_in ws).registers;
  };
  source = source_from_words ws;
  waiting = waiting_in ws;
  closing = closing_in ws;
}

-- the counts of a status
abbrev pub counts_of : Status → Counts
counts_of s = record { depth = s.stack.depth; texts = s.texts; registers = s.registers }

-- the words of a place
abbrev pub words_at : RecordCore → List ℤ
words_at p = words_of p.status.layout p.status.page p.status.collected (counts_of p.status) p.status.opening p.source p.waiting p.closing p.status.planted

-- a place is written; and what the types of its parts say
pub record PlaceWritten (p : RecordCore) (ws : List ℤ) : Type 0 where
  pub are : ws ≡ words_at p
  pub opening_named : TwoByteName p.status.opening.name
  pub traps_long : length p.status.planted.traps ≡ 16
  pub traps_named : AllNamed p.status.planted.traps
