-- Control lines, arguments and names (document 01, 'Lines and escapes'). Assumes nothing.
use Rattle.std.specs.Prelude.{true, false, List, [], ◌∷◌, ℕ, zero, suc, eqb, Option, Some}
use Rattle.rules.specs.Bytes.{byte, space, first_where, entry}

-- A part of a line, and what follows it.
pub record Part : Type 0 where
  pub part : List ℕ
  pub rest : List ℕ

-- a part and the rest, field by field
abbrev pub part : List ℕ → List ℕ → Part
part a r = record { part = a; rest = r }

-- a byte before a part
abbrev pub push : ℕ → Part → Part
push b p = part (b ∷ p.part) p.rest

-- what follows spaces
unfoldable pub after_spaces : List ℕ → List ℕ
after_spaces [] = []
after_spaces (b ∷ l) = elim (eqb b space) [ true ↦ after_spaces l | false ↦ b ∷ l ]

-- Where in an argument a byte stands: in a bare one, in a quoted one, or there behind a quote that may be a lone one.
pub data Place : Type 0 where
  bare quoted behind : Place

-- the bytes that matter in arguments
pub data Byte : Type 0 where
  blankByte quote other : Byte

-- which of them a byte is
abbrev pub byte_of : ℕ → Byte
unfolding first_where
byte_of b = entry ((space, blankByte) ∷ (byte "\"", quote) ∷ []) other b

-- A byte is kept or dropped, or the argument has ended before it.
pub data Fate : Type 0 where
  keeps drops : Place → Fate
  ended : Fate

-- "Arguments part at spaces; one that starts with a double quote runs to the next lone one .., "" inside being one quote"
abbrev pub fate : Place → Byte → Fate
fate bare blankByte = ended
fate bare quote = keeps bare
fate bare other = keeps bare
fate quoted blankByte = keeps quoted
fate quoted quote = drops behind
fate quoted other = keeps quoted
fate behind blankByte = ended
fate behind quote = keeps quoted
fate behind other = ended

-- the bytes of an argument from a place in it on, and the rest
unfoldable pub up_to : Place → List ℕ → Part
unfolding first_where
up_to p [] = part [] []
up_to p (b ∷ l) = elim (fate p (byte_of b)) [ keeps q ↦ push b (up_to q l) | drops q ↦ up_to q l | ended ↦ part [] (b ∷ l) ]

-- the first argument and what follows it, if there is one
abbrev pub first_by : Byte → ℕ → List ℕ → Part
first_by quote b l = up_to quoted l
first_by blankByte b l = up_to bare (b ∷ l)
first_by other b l = up_to bare (b ∷ l)

-- the argument that starts here, if one does
abbrev pub first_of : List ℕ → Option Part
first_of [] = Option.None
first_of (b ∷ l) = Some (first_by (byte_of b) b l)

-- "Arguments part at spaces": the first argument, and what follows it
unfoldable pub first : List ℕ → Option Part
unfolding after_spaces up_to
first l = first_of (after_spaces l)

-- "past nine are dropped": at most n arguments
unfoldable pub arguments_up_to : ℕ → List ℕ → List (List ℕ)
arguments_up_to zero l = []
arguments_up_to (suc n) l = elim (first l) [ Option.None ↦ [] | Some p ↦ p.part ∷ arguments_up_to n p.rest ]

-- "past nine are dropped"
unfoldable pub arguments : List ℕ → List (List ℕ)
unfolding arguments_up_to first
arguments l = arguments_up_to 9 l

-- ds: "In ds one leading " is dropped", after the spaces behind the name
abbrev pub without_quote_by : Byte → ℕ → List ℕ → List ℕ
without_quote_by quote b l = l
without_quote_by blankByte b l = b ∷ l
without_quote_by other b l = b ∷ l

-- "one leading " is dropped"
abbrev pub without_quote : List ℕ → List ℕ
without_quote [] = []
without_quote (b ∷ l) = without_quote_by (byte_of b) b l

-- the text of a ds, behind its name
unfoldable pub string_text : List ℕ → List ℕ
unfolding after_spaces first_where
string_text l = without_quote (after_spaces l)

-- the bytes up to a space, and those from it on: a control line's "name is the raw bytes directly after that one up to a space"
unfoldable pub first_word : List ℕ → Part
unfolding up_to
first_word l = up_to bare l

-- if: "The condition of an if ends at a space"; "What follows its spaces" is the rest
unfoldable pub condition : List ℕ → Part
unfolding first_word after_spaces
condition l = let c = first_word (after_spaces l) in part c.part (after_spaces c.rest)
