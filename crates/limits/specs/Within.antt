-- The limits that every state of the rules keeps to, from the start on (proofs/Steps.antt), and that a lent record must keep to. Assumes nothing.
use Rattle.std.specs.Prelude.{◌≡◌, Bool, List, [], ◌∷◌, ℕ, ◌+◌, ◌≤◌, length, Option, None, Some}
use Rattle.std.proofs.Common.{arith}
use Rattle.stream.specs.Answers.{Closing, done, refused}
use Rattle.stream.specs.Machine.{Step, works, asks, closed}
use Rattle.rules.specs.declared.Trap.{Trap}
use Rattle.rules.specs.Printers.{Printer, ten_to_the_inch}
use Rattle.rules.specs.Laws.Tables.{Each}
use Rattle.rules.specs.Laws.Numbers.{Bounded}
use Rattle.rules.specs.Laws.Registers.{BoundedTable}
use Rattle.rules.specs.Laws.Traps.{Single}
use Rattle.rules.specs.Texts.{Text, text_of}
use Rattle.rules.specs.Laws.Texts.{Distinct}
use Rattle.rules.specs.Settings.{Setting}
use Rattle.rules.specs.State.{Item, reading, fresh, again, others, acts, ejects, Definition, Tables, State, start}
use Rattle.rules.specs.Rows.{the_end}

-- "ll 1 to 240 cells", and the value before
pub record Ranged (v : Setting) : Type 0 where
  pub least : 1 ≤ v.now
  pub most : v.now ≤ 240
  pub former_least : 1 ≤ v.former
  pub former_most : v.former ≤ 240

-- "the old text counts as gone when the new definition starts", and "A macro exists once closed": no text has the name of an open definition
abbrev pub Gone : Option Definition → List Text → Type 0
Gone None ts = Unit
Gone (Some d) ts = text_of d.name ts ≡ None

-- "2: a source byte other than 10 and 32 to 126": 10 is no byte of a line
pub record SourceByte (b : ℕ) : Type 0 where
  pub least : 32 ≤ b
  pub most : b ≤ 126

-- the row of a trap is the result of an expression: "6: .. result outside ±1,000,000,000"
abbrev pub BoundedTrap : Trap → Type 0
BoundedTrap t = Bounded t.place.0

-- a text that is read lies on top, or nothing does
abbrev pub OverText : List Item → Type 0
OverText [] = Unit
OverText (reading n ls args ∷ k) = Unit
OverText (fresh l ∷ k) = ⊥
OverText (again x ∷ k) = ⊥
OverText (others ws g ∷ k) = ⊥
OverText (acts r l ∷ k) = ⊥
OverText (ejects n ∷ k) = ⊥

-- an item over those below it: work that is held lies over a text, or is the last
abbrev pub Layer : Item → List Item → Type 0
Layer (reading n ls args) k = Unit
Layer (fresh l) k = OverText k
Layer (again x) k = OverText k
Layer (others ws g) k = OverText k
Layer (acts r l) k = OverText k
Layer (ejects n) k = OverText k

-- each item over those below it
abbrev pub Layered : List Item → Type 0
Layered [] = Unit
Layered (i ∷ k) = Layer i k × Layered k

-- "10: input stack past 16 items": and one that is no text for a moment over them
abbrev pub limit_of : List Item → ℕ
limit_of [] = 16
limit_of (reading n ls args ∷ k) = 16
limit_of (fresh l ∷ k) = 17
limit_of (again x ∷ k) = 17
limit_of (others ws g ∷ k) = 17
limit_of (acts r l ∷ k) = 17
limit_of (ejects n ∷ k) = 17

-- "texts; lines, requests or the end with work left after a trap": the end counts too, once it has begun
abbrev pub Deep : (last : Bool) → List Item → Type 0
Deep e k = length k + the_end e ≤ limit_of k

-- what comes next is a line as it was taken: from the source, or from a text
abbrev pub NextLine : List Item → Type 0
NextLine [] = Unit
NextLine (reading n ls args ∷ k) = Unit
NextLine (fresh l ∷ k) = Unit
NextLine (again x ∷ k) = ⊥
NextLine (others ws g ∷ k) = ⊥
NextLine (acts r l ∷ k) = ⊥
NextLine (ejects n ∷ k) = ⊥

-- "8: a macro definition not ended when its input ends": while one is open, and the session is not closed, lines come next and no work that is held
abbrev pub OpenOver : Option Definition → Option Closing → List Item → Type 0
OpenOver None c k = Unit
OpenOver (Some d) None k = NextLine k
OpenOver (Some d) (Some a) k = Unit

-- "first refusal (2 to 12)"
pub record Refusal (n : ℕ) : Type 0 where
  pub least : 2 ≤ n
  pub most : n ≤ 12

-- a session is closed by done, or by a refusal at the source line that was begun last
abbrev pub Answered : Option Closing → (line : ℕ) → Type 0
Answered None l = Unit
Answered (Some done) l = Unit
Answered (Some (refused n m)) l = Refusal n × (m ≡ l)

-- THE LIMITS, part by part. Those of the settings' other ranges are `LayoutInvariant` (settings); those of counts and lengths are in what the code asks for.
pub record Limited (t : Tables) (ll : Setting) (ce : ℕ) (g : List ℕ) (l : ℕ) (k : List Item) (e : Bool) (c : Option Closing) : Type 0 where
  -- "6: .. literal, step or result outside ±1,000,000,000": values and steps
  pub registers : BoundedTable t.registers
  -- "the same N is replaced": no two traps have one N
  pub traps : Single t.traps
  pub places : Each BoundedTrap t.traps
  -- no two texts have one name
  pub texts : Distinct t.texts
  pub gone : Gone t.opened t.texts
  pub line : Ranged ll
  -- the lines that ce has still to centre were the result of an expression
  pub centred : ce ≤ 1000000000
  pub gathered : Each SourceByte g
  pub stack : Layered k
  pub depth : Deep e k
  pub opened : OpenOver t.opened c k
  pub closing : Answered c l

-- the limits of a state; the rest of its page and its other settings are free in them
abbrev pub Within : State → Type 0
Within s = Limited s.tables s.layout.line s.layout.centred s.input.gathered s.input.line s.input.stack s.page.last s.closing

-- what a state leads to keeps to something
abbrev pub KeepsTo : {S : Type 0} → (S → Type 0) → Step S → Type 0
KeepsTo P (works w s) = P s
KeepsTo P (asks t e) = P e × ((b : ℕ) → P (t b))
KeepsTo P (closed a) = Unit

-- what a piece of work leads to keeps to the limits
abbrev pub Keeps : Step State → Type 0
Keeps x = KeepsTo Within x

-- The start keeps to them, if its lines are within "ll 1 to 240 cells".
pub start_within : (p : Printer) → 1 ≤ p.line → p.line ≤ 240 → Within (start p)
start_within p a b = record {
  registers = tt;
  traps = tt;
  places = tt;
  texts = tt;
  gone = tt;
  line = record { least = a; most = b; former_least = a; former_most = b };
  centred = omega arith;
  gathered = tt;
  stack = tt;
  depth = omega arith;
  opened = tt;
  closing = tt;
}

-- So does that of the printer with ten cells to the inch.
pub ten_within : Within (start ten_to_the_inch)
ten_within = start_within ten_to_the_inch (omega arith) (omega arith)
