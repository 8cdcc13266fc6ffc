-- What is held on the input stack while a trap's macro is read. Assumes nothing.
use Rattle.std.specs.Prelude.{◌≡◌, Bool, true, false, List, [], ◌∷◌, ◌++◌, ℕ, ◌+◌, ◌≤◌, length, replicate, Option, None, Some}
use Rattle.rules.specs.Texts.{Text}
use Rattle.rules.specs.State.{Item}
use Rattle.input_stack.specs.declared.frames.What.{What}
use Rattle.input_stack.specs.declared.frames.What.TheVariants as what
use Rattle.input_stack.specs.declared.stack.Stack.{Stack}
use Rattle.input_stack.specs.Stack.Frames.{Frame, frame, frame_entry, frames_of, top_entry, StackInvariant}
use Rattle.input_stack.specs.Stack.Items.{item_by}

-- no arguments end anywhere
abbrev pub no_ends : List ℕ
no_ends = replicate 9 0

-- the frame that is held, if there is one
abbrev pub held_frames : Option What → (bytes : List ℕ) → List Frame
held_frames None bs = []
held_frames (Some w) bs = frame (frame_entry w (length bs)) bs no_ends ∷ []

-- the item that is held, if there is one
abbrev pub held_of : List Text → Option What → (bytes : List ℕ) → List Item
held_of ts None bs = []
held_of ts (Some w) bs = item_by ts w bs no_ends ∷ []

abbrev pub held_count : Option What → ℕ
held_count None = 0
held_count (Some w) = 1

-- the end is an item too, once it has begun
abbrev pub last_count : (last : Bool) → ℕ
last_count true = 1
last_count false = 0

-- a text that is read, and any other item
abbrev pub is_text : What → Bool
is_text (what.Reading n k c) = true
is_text what.Text = false
is_text (what.Control q n) = false
is_text what.Ignored = false
is_text (what.Others g) = false
is_text (what.Acts r) = false
is_text (what.Ejects p) = false

-- no text, and no gap past 2
abbrev pub PlainItem : What → Type 0
PlainItem (what.Reading n k c) = ⊥
PlainItem what.Text = Unit
PlainItem (what.Control q n) = Unit
PlainItem what.Ignored = Unit
PlainItem (what.Others g) = g ≤ 2
PlainItem (what.Acts r) = Unit
PlainItem (what.Ejects p) = Unit

-- no text is held
abbrev pub Plain : Option What → Type 0
Plain None = Unit
Plain (Some w) = PlainItem w

-- how deep a stack may be with this item on top: 16 items, and one that is no text for a moment over them
abbrev pub limit_by : (text : Bool) → ℕ
limit_by true = 16
limit_by false = 17

-- "10: input stack past 16 items"
abbrev pub StackFits : Stack → (ends : List ℕ) → Type 0
StackFits s ps = s.depth ≤ limit_by (is_text (top_entry s ps).what)

-- a stack onto which work may put something, and bytes that may be held
pub record StackReady (s : Stack) (arena ends bytes : List ℕ) : Type 0 where
  pub columns : StackInvariant s arena ends
  pub few : s.depth ≤ 16
  pub short : length bytes ≤ 512

-- what is held goes on
pub record HeldTo (h : Option What) (bytes : List ℕ) (s : Stack) (arena ends : List ℕ) (r : Stack) (arena' ends' : List ℕ) : Type 0 where
  pub frames : frames_of r arena' ends' ≡ held_frames h bytes ++ frames_of s arena ends
  pub columns : StackInvariant r arena' ends'
  pub depth : r.depth ≡ held_count h + s.depth
