-- A frame as an item of the rules' input stack, seen over the texts. Assumes nothing.
use Rattle.std.specs.Prelude.{◌≡◌, List, [], ◌∷◌, ℕ, zero, suc, ◌≤◌, drop, Option, None, Some}
use Rattle.rules.specs.declared.Name.{Name}
use Rattle.rules.specs.declared.Kind.{Kind}
use Rattle.rules.specs.declared.Kind.TheVariants.{Macro, String}
use Rattle.rules.specs.Texts.{Text, text_of}
use Rattle.rules.specs.Rows.{lines}
use Rattle.rules.specs.Filling.{words}
use Rattle.rules.specs.State.{Item, reading, again, others, acts, ejects, plain_text, control, ignored}
use Rattle.rules.specs.Laws.Tables.{Each}
use Rattle.scan.specs.Arguments.Around.{arguments_of, Arguments}
use Rattle.input_stack.specs.declared.frames.What.{What}
use Rattle.input_stack.specs.declared.frames.What.TheVariants as what
use Rattle.input_stack.specs.declared.stack.Stack.{Stack}
use Rattle.input_stack.specs.Stack.Frames.{Frame, frames_of, StackInvariant}

-- the lines of a text from a place on: "A string called as a macro is one line"
abbrev pub unread_by : Kind → List ℕ → (place : ℕ) → List (List ℕ)
unread_by Macro l k = lines (drop k l)
unread_by String l zero = l ∷ []
unread_by String l (suc k) = []

-- the lines of a text that are not read
abbrev pub unread : Option Text → (place : ℕ) → List (List ℕ)
unread None k = []
unread (Some t) k = unread_by t.kind t.bytes k

-- the item of these bytes and places
abbrev pub item_by : List Text → What → (bytes ends : List ℕ) → Item
item_by ts (what.Reading n k c) l es = reading n (unread (text_of n ts) k) (arguments_of l es c)
item_by ts what.Text l es = again (plain_text l)
item_by ts (what.Control q n) l es = again (control q n l)
item_by ts what.Ignored l es = again ignored
item_by ts (what.Others g) l es = others (words l) g
item_by ts (what.Acts r) l es = acts r l
item_by ts (what.Ejects p) l es = ejects p

-- the item of a frame
abbrev pub item_of : List Text → Frame → Item
item_of ts f = item_by ts f.entry.what f.bytes f.ends

-- the items of frames
unfoldable pub items_of : List Text → List Frame → List Item
items_of ts [] = []
items_of ts (f ∷ fs) = item_of ts f ∷ items_of ts fs

-- the items on a stack
abbrev pub stack_of : List Text → Stack → (arena ends : List ℕ) → List Item
stack_of ts s bs ps = items_of ts (frames_of s bs ps)

-- there is a text of this name
abbrev pub There : Name → List Text → Type 0
There n ts = (t : Text) × (text_of n ts ≡ Some t)

-- a text that is read is there, and its arguments lie within the bytes; a gap is at most 2
abbrev pub GoodBy : List Text → What → (bytes ends : List ℕ) → Type 0
GoodBy ts (what.Reading n k c) l es = Arguments l es c × There n ts
GoodBy ts what.Text l es = Unit
GoodBy ts (what.Control q n) l es = Unit
GoodBy ts what.Ignored l es = Unit
GoodBy ts (what.Others g) l es = g ≤ 2
GoodBy ts (what.Acts r) l es = Unit
GoodBy ts (what.Ejects p) l es = Unit

-- a frame that is good
abbrev pub GoodFrame : List Text → Frame → Type 0
GoodFrame ts f = GoodBy ts f.entry.what f.bytes f.ends

-- each of the frames is good
abbrev pub GoodFrames : List Text → List Frame → Type 0
GoodFrames ts fs = Each (GoodFrame ts) fs

-- what every stack keeps to, over these texts
pub record Stacked (ts : List Text) (s : Stack) (arena ends : List ℕ) : Type 0 where
  pub columns : StackInvariant s arena ends
  pub good : GoodFrames ts (frames_of s arena ends)
