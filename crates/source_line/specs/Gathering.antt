-- The bytes of a source line, taken one after another as the rules say. Assumes nothing.
use Rattle.std.specs.Prelude.{◌≡◌, Bool, true, false, ◌&&◌, List, [], ◌∷◌, ◌++◌, ℕ, zero, suc, ◌+◌, ◌<◌, ◌≤◌, leb, eqb, length, take, drop, None}
use Rattle.std.specs.List.{list_all}
use Rattle.rules.specs.State.{State, Item, fresh, refuse}
use Rattle.rules.specs.StateSetters.{input, with_input}
use Rattle.rules.specs.Session.{take_byte}
use Rattle.rules.specs.Results.{refusal_number}
use Rattle.rules.specs.declared.Refusal.TheVariants.{BadByte, LongLine}
use Rattle.source_line.specs.declared.Source.{Source}
use Rattle.source_line.specs.declared.Gathered.{Gathered}
use Rattle.source_line.specs.declared.Reach.{Reach}
use Rattle.source_line.specs.declared.Why.{Why}
use Rattle.source_line.specs.declared.Why.TheVariants.{More, Ended, Refused}

-- a state whose source has these gathered bytes, this line number and so many stored lines read, and whose end was not read; the other parts are x's
abbrev pub with_source : (gathered : List ℕ) → (line stored : ℕ) → List Item → State → State
with_source g l r k x = with_input (input g l false r k) x

-- the state asks for a byte
pub record Asks (s : State) : Type 0 where
  pub closing : s.closing ≡ None
  pub ended : s.input.ended ≡ false
  pub stack : s.input.stack ≡ []

-- s asks for each of these bytes, and they lead to s'
abbrev pub Takes : State → (bytes : List ℕ) → State → Type 0
Takes s [] s' = s' ≡ s
Takes s (b ∷ bs) s' = Asks s × Takes (take_byte b s) bs s'

-- the numbers of the line that the next byte belongs to
abbrev pub begun_line : (gathered : ℕ) → (line : ℕ) → ℕ
begun_line zero l = suc l
begun_line (suc n) l = l

abbrev pub begun_stored : (gathered : ℕ) → (stored : ℕ) → ℕ
begun_stored zero r = 0
begun_stored (suc n) r = r

abbrev pub begun_source : Source → Source
begun_source s = record { line = begun_line s.length s.line; length = s.length; ended = s.ended; stored = begun_stored s.length s.stored }

-- the place behind the bytes taken, the line's bytes, and why no more are taken
pub record Reached : Type 0 where
  pub to : ℕ
  pub gathered : List ℕ
  pub why : Why

abbrev pub reached : ℕ → List ℕ → Why → Reached
reached i g w = record { to = i; gathered = g; why = w }

-- a byte that may stand in a source line
abbrev pub is_plain : ℕ → Bool
is_plain b = leb 32 b && leb b 126

-- what one byte of a line, up to the place i, leads to
abbrev pub line_step : (newline long good : Bool) → ℕ → List ℕ → Reached → Reached
line_step true l a i g on = reached i g Ended
line_step false true a i g on = reached i g (Refused LongLine)
line_step false false false i g on = reached i g (Refused BadByte)
line_step false false true i g on = on

-- the bytes from the place i on are taken for a line that has the bytes g, whose number is allowed
unfoldable pub line_from : ℕ → (bytes : List ℕ) → (g : List ℕ) → Reached
line_from i [] g = reached i g More
line_from i (b ∷ bs) g = line_step (eqb b 10) (leb 512 (length g)) (is_plain b) (i + 1) g (line_from (i + 1) bs (g ++ b ∷ []))

-- the code's answer, with the array of the line
abbrev pub reached_by : Reach → List ℕ → Reached
reached_by r line = reached r.to (take r.length line) r.why

-- a line that has its first bytes, in its array
pub record Reaches (block : List ℕ) (from : ℕ) (line : List ℕ) (start : ℕ) : Type 0 where
  pub place : from ≤ length block
  pub short : start ≤ 512
  pub long : length line ≡ 512

-- the bytes of the block are taken for the line
pub record ReachedTo (block : List ℕ) (from : ℕ) (line : List ℕ) (start : ℕ) (r : Reach) (line' : List ℕ) : Type 0 where
  pub is : reached_by r line' ≡ line_from from (drop from block) (take start line)
  pub short : r.length ≤ 512
  pub long : length line' ≡ 512

-- the state that the bytes lead to: a line that ended is to be dealt with
abbrev pub gathered_to : Why → (gathered : List ℕ) → (line stored : ℕ) → State → State
gathered_to More g l r x = with_source g l r [] x
gathered_to Ended g l r x = with_source [] l r (fresh g ∷ []) x
gathered_to (Refused n) g l r x = refuse (refusal_number n) (with_source g l r [] x)

-- "12: past 1,000,000 source lines"
abbrev pub most_lines_by : Why → ℕ
most_lines_by More = 1000000
most_lines_by Ended = 1000000
most_lines_by (Refused n) = 1000001

-- a block with a byte at this place, and the source of a session that asks for it
pub record Gathers (block : List ℕ) (from : ℕ) (line : List ℕ) (s : Source) : Type 0 where
  pub some : from < length block
  pub long : length line ≡ 512
  pub short : s.length ≤ 512
  pub numbered : s.line ≤ 1000000
  pub counted : s.stored ≤ 10000

-- The bytes of the block from a place on are taken as the rules say, until a line ends, a byte is refused or none is left.
pub record GatheredTo (block : List ℕ) (from : ℕ) (line : List ℕ) (s : Source) (r : Gathered) (line' : List ℕ) : Type 0 where
  pub is : (x : State) → x.closing ≡ None
      → Takes (with_source (take s.length line) s.line s.stored [] x) (take r.taken (drop from block))
      (gathered_to r.why (take r.source.length line') r.source.line r.source.stored x)
  pub some : 0 < r.taken
  pub within : from + r.taken ≤ length block
  pub all : r.why ≡ More → from + r.taken ≡ length block
  pub long : length line' ≡ 512
  pub short : r.source.length ≤ 512
  pub numbered : r.source.line ≤ most_lines_by r.why
  pub counted : r.source.stored ≤ 10000
  pub ended : r.source.ended ≡ s.ended

-- bytes that may stand in a source line
unfoldable pub are_plain : (bytes : List ℕ) → Bool
are_plain bs = list_all is_plain bs

-- a line that has so many bytes, and one at least, takes these and goes on
abbrev pub is_inside : (bytes : List ℕ) → (start : ℕ) → Bool
is_inside bs n = leb 1 n && (leb (n + length bs) 512 && are_plain bs)

-- the bytes fit behind those that the line has
pub record Appends (bytes line : List ℕ) (start : ℕ) : Type 0 where
  pub fits : start + length bytes ≤ 512
  pub long : length line ≡ 512
