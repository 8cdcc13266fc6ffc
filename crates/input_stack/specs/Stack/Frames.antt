-- The frames of the input stack, as the lent arrays stand for them: each has 512 bytes of the one and thirteen words of the other, the last nine of them places. Assumes nothing.
use Rattle.std.specs.Prelude.{◌≡◌, Bool, true, false, ◌||◌, List, [], ◌∷◌, ℕ, zero, suc, ◌+◌, ◌-◌, ◌*◌, ◌%◌, ◌≤◌, ◌<◌, eqb, length, take, drop, get_or, set}
use Rattle.rules.specs.declared.Name.{Name}
use Rattle.rules.specs.Names.{same_name}
use Rattle.input_stack.specs.declared.frames.What.{What}
use Rattle.input_stack.specs.declared.frames.What.TheVariants.{Reading, Text, Control, Ignored, Others, Acts, Ejects}
use Rattle.input_stack.specs.declared.stack.Entry.{Entry}
use Rattle.input_stack.specs.declared.stack.Stack.{Stack}
use Rattle.input_stack.specs.declared.frames.Words.{Words}
use Rattle.input_stack.specs.Frames.Words.{what_of}

-- an entry with its bytes and the places where its arguments end
pub record Frame : Type 0 where
  pub entry : Entry
  pub bytes : List ℕ
  pub ends : List ℕ

-- a frame, field by field
abbrev pub frame : Entry → List ℕ → List ℕ → Frame
frame e bs es = record { entry = e; bytes = bs; ends = es }

-- an entry, field by field
abbrev pub frame_entry : What → (size : ℕ) → Entry
frame_entry w n = record { what = w; size = n }

-- a stack with nothing on it
abbrev pub no_frames : Stack
no_frames = record { depth = 0 }

-- the entry in a row
unfoldable pub entry_at : (ends : List ℕ) → ℕ → Entry
entry_at ps i = frame_entry (what_of (get_or ps (i * 13) 0) (get_or ps (i * 13 + 1) 0) (get_or ps (i * 13 + 2) 0)) (get_or ps (i * 13 + 3) 0)

-- an entry put into its four words
abbrev pub entered : (ends : List ℕ) → (at : ℕ) → Words → (size : ℕ) → List ℕ
entered ps at w n = set (set (set (set ps at w.first) (at + 1) w.second) (at + 2) w.third) (at + 3) n

-- the frame in a row
abbrev pub frame_at : (arena ends : List ℕ) → ℕ → Frame
frame_at bs ps i = frame (entry_at ps i) (take (entry_at ps i).size (drop (i * 512) bs)) (take 9 (drop (i * 13 + 4) ps))

-- the frames below a depth, the top one first
unfoldable pub frames_to : (arena ends : List ℕ) → ℕ → List Frame
frames_to bs ps zero = []
frames_to bs ps (suc d) = frame_at bs ps d ∷ frames_to bs ps d

-- the frames on a stack
abbrev pub frames_of : Stack → (arena ends : List ℕ) → List Frame
frames_of s bs ps = frames_to bs ps s.depth

-- the frame on top
abbrev pub top_frame : Stack → (arena ends : List ℕ) → Frame
top_frame s bs ps = frame_at bs ps (s.depth - 1)

-- its entry
abbrev pub top_entry : Stack → (ends : List ℕ) → Entry
top_entry s ps = entry_at ps (s.depth - 1)

-- its bytes
abbrev pub top_bytes : Stack → (arena ends : List ℕ) → List ℕ
top_bytes s bs ps = take (top_entry s ps).size (drop ((s.depth - 1) * 512) bs)

-- its places
abbrev pub top_ends : Stack → (ends : List ℕ) → List ℕ
top_ends s ps = take 9 (drop ((s.depth - 1) * 13 + 4) ps)

-- "10: input stack past 16 items": there are no more, but for one that is held for a moment, each within its bytes
pub record StackInvariant (s : Stack) (arena ends : List ℕ) : Type 0 where
  pub few : s.depth ≤ 17
  pub long : length arena ≡ 8704
  pub ends_long : length ends ≡ 221
  pub sizes : (i : ℕ) → i < s.depth → (entry_at ends i).size ≤ 512

-- there is a frame on top, within its bytes
pub record Topped (s : Stack) (ends : List ℕ) : Type 0 where
  pub some : 0 < s.depth
  pub few : s.depth ≤ 17
  pub size : (top_entry s ends).size ≤ 512

-- one frame more on top
pub record PushedTo (s : Stack) (bs ps : List ℕ) (w : What) (l g : List ℕ) (r : Stack) (bs' ps' : List ℕ) : Type 0 where
  pub frames : frames_of r bs' ps' ≡ frame (frame_entry w (length l)) l g ∷ frames_of s bs ps
  pub columns : StackInvariant r bs' ps'
  pub depth : r.depth ≡ s.depth + 1

-- the bytes of the frame on top stand in front
pub record LoadedTo (s : Stack) (arena ends : List ℕ) (r : ℕ) (out : List ℕ) : Type 0 where
  pub size : r ≡ (top_entry s ends).size
  pub bytes : take r out ≡ top_bytes s arena ends
  pub fits : r ≤ 512
  pub long : length out ≡ 512

-- the stack without the frame on top
abbrev pub popped : Stack → Stack
popped s = record { depth = s.depth - 1 }

-- a text that is read up to another place
abbrev pub moved : (place : ℕ) → What → What
moved p (Reading n k c) = Reading n p c
moved p Text = Text
moved p (Control q n) = Control q n
moved p Ignored = Ignored
moved p (Others g) = Others g
moved p (Acts r) = Acts r
moved p (Ejects n) = Ejects n

-- an entry with another place
abbrev pub moved_entry : (place : ℕ) → Entry → Entry
moved_entry p e = frame_entry (moved p e.what) e.size

-- words with another place from a row on, if that is a text
abbrev pub placed_by : (text : Bool) → (ends : List ℕ) → (at place : ℕ) → List ℕ
placed_by true ps at p = set ps (at + 2) p
placed_by false ps at p = ps

abbrev pub placed_in : (ends : List ℕ) → (row place : ℕ) → List ℕ
placed_in ps i p = placed_by (eqb (get_or ps (i * 13) 0 % 256) 0) ps (i * 13) p

-- another place in the frame on top, if that is a text
unfoldable pub placed_at : Stack → (ends : List ℕ) → (place : ℕ) → List ℕ
placed_at s ps p = placed_in ps (s.depth - 1) p

-- whether an item is the text of a name
abbrev pub is_called : Name → What → Bool
is_called n (Reading m k c) = same_name n m
is_called n Text = false
is_called n (Control q m) = false
is_called n Ignored = false
is_called n (Others g) = false
is_called n (Acts r) = false
is_called n (Ejects p) = false

-- whether one below a depth is
unfoldable pub called_below : Name → (ends : List ℕ) → ℕ → Bool
called_below n ps zero = false
called_below n ps (suc d) = is_called n (entry_at ps d).what || called_below n ps d
