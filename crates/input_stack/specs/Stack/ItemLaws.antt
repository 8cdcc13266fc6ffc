-- Laws of the frames and the items on the stack: the top one first, the stack below it, and why texts may change under a stack. Assumes nothing.
use Rattle.std.specs.Prelude.{◌≡◌, Bool, true, false, ◌||◌, length, take, drop, Option, Some}
use Rattle.std.proofs.Math.Path.{refl, ap, subst}
use Rattle.std.proofs.Common.{sym, ◌∙◌, length-drop, drop_of_length-le, drop-drop}
use Rattle.std.proofs.lemmas.Bool.{false≢true}
use mathlib.Core.List.{List, [], ◌∷◌, ◌++◌}
use Prim.Native.Nat.{ℕ, zero, suc, ◌+◌, ◌-◌, ◌*◌, ◌≤◌, ◌<◌}
use native.Mathlib.Omega.{arith}
use Rattle.rules.specs.declared.Name.{Name}
use Rattle.rules.specs.declared.Kind.{Kind}
use Rattle.rules.specs.declared.Kind.TheVariants.{Macro, String}
use Rattle.rules.specs.Bytes.{first_where}
use Rattle.rules.specs.Names.{same_name}
use Rattle.rules.specs.Laws.Names.{same_swap}
use Rattle.rules.specs.Texts.{Text, text_of}
use Rattle.rules.specs.Laws.Texts.{found_first, found_later}
use Rattle.rules.specs.Rows.{lines, lines_of}
use Rattle.rules.specs.State.{reading, is_reading, on_stack}
use Rattle.texts.specs.Lines.Lines.{first_line, lines_first}
use Rattle.scan.specs.Arguments.Around.{arguments_of}
use Rattle.input_stack.specs.declared.frames.What.{What}
use Rattle.input_stack.specs.declared.frames.What.TheVariants as what
use Rattle.input_stack.specs.declared.stack.Entry.{Entry}
use Rattle.input_stack.specs.declared.stack.Stack.{Stack}
use Rattle.input_stack.specs.Stack.Frames.{Frame, frame, entry_at, frame_at, frames_to, frames_of, top_frame, top_entry, top_bytes, top_ends, StackInvariant, Topped, PushedTo, popped, moved, moved_entry, placed_in, placed_at, is_called, called_below}
use Rattle.input_stack.specs.Stack.FrameLaws.{frames_kept, placed_entry, placed_size, placed_before, placed_behind, placed_length}
use Rattle.input_stack.specs.Stack.Items.{unread_by, unread, item_by, item_of, items_of, stack_of, GoodBy, GoodFrames, Stacked}

frames_to_lem : (bs ps : List ℕ) (d : ℕ) → length (frames_to bs ps d) ≡ d
unfolding frames_to
frames_to_lem bs ps zero = refl
frames_to_lem bs ps (suc d) = ap suc (frames_to_lem bs ps d)

-- There are as many frames as the stack is deep.
pub frames_length : (s : Stack) (arena ends : List ℕ) → length (frames_of s arena ends) ≡ s.depth
frames_length s bs ps = frames_to_lem bs ps s.depth

-- There are as many items as frames.
pub items_length : (ts : List Text) (fs : List Frame) → length (items_of ts fs) ≡ length fs
unfolding items_of
items_length ts [] = refl
items_length ts (f ∷ fs) = ap suc (items_length ts fs)

-- There are as many items as the stack is deep.
pub stack_length : (ts : List Text) (s : Stack) (arena ends : List ℕ) → length (stack_of ts s arena ends) ≡ s.depth
stack_length ts s bs ps = items_length ts (frames_of s bs ps) ∙ frames_length s bs ps

-- A stack is its top frame and the frames below it.
pub top_first : (s : Stack) (arena ends : List ℕ) → 0 < s.depth → frames_of s arena ends ≡ top_frame s arena ends ∷ frames_of (popped s) arena ends
unfolding frames_to
top_first s bs ps h = let e : s.depth ≡ suc (s.depth - 1) = omega arith in ap (frames_to bs ps) e

-- The same of its items, where it is known what the one on top is.
pub top_item : (ts : List Text) (s : Stack) (arena ends : List ℕ) (w : What) → 0 < s.depth → (top_entry s ends).what ≡ w
    → stack_of ts s arena ends ≡ item_by ts w (top_bytes s arena ends) (top_ends s ends) ∷ stack_of ts (popped s) arena ends
unfolding items_of
top_item ts s bs ps w h e =
    ap (items_of ts) (top_first s bs ps h) ∙ ap (λ (x : What). item_by ts x (top_bytes s bs ps) (top_ends s ps) ∷ stack_of ts (popped s) bs ps) e

-- The first of the frames is the one on top, and the others lie below it.
pub top_known : (s : Stack) (arena ends : List ℕ) (f : Frame) (fs : List Frame) → frames_of s arena ends ≡ f ∷ fs
    → (top_frame s arena ends ≡ f) × (frames_of (popped s) arena ends ≡ fs)
top_known s bs ps f fs e = let h = top_first s bs ps (omega (arith, frames_length s bs ps, ap length e)) in (cc, cc)

-- The frame on top of a stack is good.
pub top_good : (ts : List Text) (s : Stack) (arena ends : List ℕ) (w : What) → 0 < s.depth → (top_entry s ends).what ≡ w
    → Stacked ts s arena ends → GoodBy ts w (top_bytes s arena ends) (top_ends s ends)
top_good ts s bs ps w h e k =
    subst (λ (x : What). GoodBy ts x (top_bytes s bs ps) (top_ends s ps)) e (subst (GoodFrames ts) (top_first s bs ps h) k.good).0

-- Nothing lies on a stack that is not deep.
pub none_there : (ts : List Text) (s : Stack) (arena ends : List ℕ) → s.depth ≡ 0 → stack_of ts s arena ends ≡ []
unfolding items_of frames_to
none_there ts s bs ps e = ap (λ (d : ℕ). items_of ts (frames_to bs ps d)) e

-- There is a frame on top of a stack that is deep.
pub topped : (s : Stack) (arena ends : List ℕ) → StackInvariant s arena ends → 0 < s.depth → Topped s ends
topped s bs ps k h = record { some = h; few = k.few; size = k.sizes (s.depth - 1) (omega arith) }

-- What lies below keeps to the limits.
pub below_columns : (s : Stack) (arena ends : List ℕ) → StackInvariant s arena ends → StackInvariant (popped s) arena ends
below_columns s bs ps k = record { few = omega (arith, k.few); long = k.long; ends_long = k.ends_long; sizes = λ i h. k.sizes i (omega arith) }

good_down : (ts : List Text) (bs ps : List ℕ) (d : ℕ) → GoodFrames ts (frames_to bs ps d) → GoodFrames ts (frames_to bs ps (d - 1))
unfolding frames_to
good_down ts bs ps zero g = g
good_down ts bs ps (suc d) g = let e : d ≡ suc d - 1 = omega arith in subst (λ (k : ℕ). GoodFrames ts (frames_to bs ps k)) e g.1

-- What lies below is a stack.
pub below_stacked : (ts : List Text) (s : Stack) (arena ends : List ℕ) → Stacked ts s arena ends → Stacked ts (popped s) arena ends
below_stacked ts s bs ps k =
    record { columns = below_columns s bs ps k.columns; good = good_down ts bs ps s.depth k.good }

-- a frame is pushed
module _ (ts : List Text) (s : Stack) (bs ps : List ℕ) (w : What) (l g : List ℕ) (r : Stack) (bs' ps' : List ℕ) (p : PushedTo s bs ps w l g r bs' ps') where
  -- It is one item more.
  pub pushed_items : stack_of ts r bs' ps' ≡ item_by ts w l g ∷ stack_of ts s bs ps
  unfolding items_of
  pushed_items = ap (items_of ts) p.frames

  -- A good frame leaves all good.
  pub pushed_good : GoodBy ts w l g → GoodFrames ts (frames_of s bs ps) → GoodFrames ts (frames_of r bs' ps')
  pushed_good a b = subst (GoodFrames ts) (sym p.frames) (a, b)

-- a frame that is read up to another place
abbrev pub moved_frame : (place : ℕ) → Frame → Frame
moved_frame p f = frame (moved_entry p f.entry) f.bytes f.ends

-- the frames with another place in the first one
abbrev pub moved_first : (place : ℕ) → List Frame → List Frame
moved_first p [] = []
moved_first p (f ∷ fs) = moved_frame p f ∷ fs

good_moved : (ts : List Text) (p : ℕ) (w : What) (l es : List ℕ) → GoodBy ts w l es → GoodBy ts (moved p w) l es
good_moved ts p (what.Reading n k c) l es g = g
good_moved ts p what.Text l es g = g
good_moved ts p (what.Control q n) l es g = g
good_moved ts p what.Ignored l es g = g
good_moved ts p (what.Others k) l es g = g
good_moved ts p (what.Acts r) l es g = g
good_moved ts p (what.Ejects k) l es g = g

first_moved : (ts : List Text) (p : ℕ) (fs : List Frame) → GoodFrames ts fs → GoodFrames ts (moved_first p fs)
first_moved ts p [] g = g
first_moved ts p (f ∷ fs) g = (good_moved ts p f.entry.what f.bytes f.ends g.0, g.1)

moved_frames : (bs ps : List ℕ) (d p : ℕ) → d * 13 + 4 ≤ length ps → ((i : ℕ) → i < d → (entry_at ps i).size ≤ 512)
    → frames_to bs (placed_in ps d p) (suc d) ≡ moved_first p (frames_to bs ps (suc d))
unfolding frames_to
moved_frames bs ps d p l z =
    ap (λ (e : Entry). frame e (take e.size (drop (d * 512) bs)) (take 9 (drop (d * 13 + 4) (placed_in ps d p))) ∷ frames_to bs (placed_in ps d p) d) (placed_entry ps d p l)
    ∙ ap (λ (x : List ℕ). frame (moved_entry p (entry_at ps d)) (frame_at bs ps d).bytes (take 9 x) ∷ frames_to bs (placed_in ps d p) d) (placed_behind ps d p)
    ∙ ap (λ x. moved_frame p (frame_at bs ps d) ∷ x) (frames_kept bs bs ps (placed_in ps d p) d refl (placed_before ps d p) z d (omega arith))

-- another place in the frame on top
module _ (s : Stack) (p : ℕ) (arena ends : List ℕ) (k : StackInvariant s arena ends) (deep : 0 < s.depth) where
  abbrev ends' : List ℕ
  ends' = placed_at s ends p

  -- The frames are those with another place in the first one.
  pub placed_frames : frames_of s arena ends' ≡ moved_first p (frames_of s arena ends)
  unfolding placed_at
  placed_frames =
      let e : s.depth ≡ suc (s.depth - 1) = omega arith in
      ap (frames_to arena (placed_in ends (s.depth - 1) p)) e
      ∙ moved_frames arena ends (s.depth - 1) p (omega (arith, k.few, k.ends_long)) (λ i h. k.sizes i (omega arith))
      ∙ ap (λ (d : ℕ). moved_first p (frames_to arena ends d)) (sym e)

  -- The entry of the first one has that place.
  pub placed_top : top_entry s ends' ≡ moved_entry p (top_entry s ends)
  unfolding placed_at
  placed_top = placed_entry ends (s.depth - 1) p (omega (arith, k.few, k.ends_long))

  -- Its bytes and its arguments are as they were.
  pub placed_bytes : top_bytes s arena ends' ≡ top_bytes s arena ends
  placed_bytes = ap (λ (e : Entry). take e.size (drop ((s.depth - 1) * 512) arena)) placed_top

  pub placed_ends : top_ends s ends' ≡ top_ends s ends
  unfolding placed_at
  placed_ends = ap (take 9) (placed_behind ends (s.depth - 1) p)

  -- A text is then read from that place on.
  pub placed_item : (ts : List Text) (n : Name) (m c : ℕ) → (top_entry s ends).what ≡ what.Reading n m c
      → stack_of ts s arena ends' ≡ item_by ts (what.Reading n p c) (top_bytes s arena ends) (top_ends s ends) ∷ stack_of ts (popped s) arena ends
  unfolding items_of
  placed_item ts n m c e =
      ap (items_of ts) (placed_frames ∙ ap (moved_first p) (top_first s arena ends deep))
      ∙ ap (λ (x : What). item_by ts (moved p x) (top_bytes s arena ends) (top_ends s ends) ∷ stack_of ts (popped s) arena ends) e

  -- They keep to their limits.
  pub placed_columns : StackInvariant s arena ends'
  unfolding placed_at
  placed_columns = record {
    few = k.few;
    long = k.long;
    ends_long = placed_length ends (s.depth - 1) p ∙ k.ends_long;
    sizes = λ i h. subst (λ (n : ℕ). n ≤ 512) (sym (placed_sizes i h)) (k.sizes i h);
  }
    where
      placed_sizes : (i : ℕ) → i < s.depth → (entry_at (placed_in ends (s.depth - 1) p) i).size ≡ (entry_at ends i).size
      placed_sizes i h = placed_size ends (s.depth - 1) p i (omega (arith, k.few, k.ends_long)) (omega arith)

  -- It is a stack.
  pub placed_stacked : (ts : List Text) → Stacked ts s arena ends → Stacked ts s arena ends'
  placed_stacked ts g = record { columns = placed_columns; good = subst (GoodFrames ts) (sym placed_frames) (first_moved ts p (frames_of s arena ends) g.good) }

called_item : (ts : List Text) (n : Name) (w : What) (l es : List ℕ) → is_called n w ≡ is_reading n (item_by ts w l es)
called_item ts n (what.Reading m k c) l es = refl
called_item ts n what.Text l es = refl
called_item ts n (what.Control q m) l es = refl
called_item ts n what.Ignored l es = refl
called_item ts n (what.Others g) l es = refl
called_item ts n (what.Acts r) l es = refl
called_item ts n (what.Ejects p) l es = refl

called_below_lem : (ts : List Text) (n : Name) (bs ps : List ℕ) (d : ℕ) → called_below n ps d ≡ on_stack n (items_of ts (frames_to bs ps d))
unfolding called_below on_stack items_of frames_to
called_below_lem ts n bs ps zero = refl
called_below_lem ts n bs ps (suc d) =
    ap (λ (b : Bool). b || called_below n ps d) (called_item ts n (entry_at ps d).what (frame_at bs ps d).bytes (frame_at bs ps d).ends)
    ∙ ap (λ (b : Bool). is_reading n (item_of ts (frame_at bs ps d)) || b) (called_below_lem ts n bs ps d)

-- Whether a text lies on the stack is told without the bytes.
pub on_stack_lem : (ts : List Text) (n : Name) (s : Stack) (arena ends : List ℕ) → called_below n ends s.depth ≡ on_stack n (stack_of ts s arena ends)
on_stack_lem ts n s bs ps = called_below_lem ts n bs ps s.depth

neither : (a b : Bool) → (a || b) ≡ false → (a ≡ false) × (b ≡ false)
neither true b h = absurd (false≢true (sym h))
neither false b h = (refl, h)

-- texts that are read are found as before
module _ (ts ts' : List Text) (m : Name) (kept : (k : Name) → same_name k m ≡ false → text_of k ts' ≡ text_of k ts) where
  item_kept : (w : What) (l es : List ℕ) → is_reading m (item_by ts w l es) ≡ false → item_by ts' w l es ≡ item_by ts w l es
  item_kept (what.Reading n k c) l es h = ap (λ (o : Option Text). reading n (unread o k) (arguments_of l es c)) (kept n (same_swap m n h))
  item_kept what.Text l es h = refl
  item_kept (what.Control q n) l es h = refl
  item_kept what.Ignored l es h = refl
  item_kept (what.Others g) l es h = refl
  item_kept (what.Acts r) l es h = refl
  item_kept (what.Ejects p) l es h = refl

  frame_good : (w : What) (l es : List ℕ) → is_reading m (item_by ts w l es) ≡ false → GoodBy ts w l es → GoodBy ts' w l es
  frame_good (what.Reading n k c) l es h g = (g.0, (g.1.0, kept n (same_swap m n h) ∙ g.1.1))
  frame_good what.Text l es h g = g
  frame_good (what.Control q n) l es h g = g
  frame_good what.Ignored l es h g = g
  frame_good (what.Others k) l es h g = g
  frame_good (what.Acts r) l es h g = g
  frame_good (what.Ejects p) l es h g = g

  all_kept : (fs : List Frame) → on_stack m (items_of ts fs) ≡ false → items_of ts' fs ≡ items_of ts fs
  unfolding items_of on_stack
  all_kept [] h = refl
  all_kept (f ∷ fs) h =
      let b = neither (is_reading m (item_of ts f)) (on_stack m (items_of ts fs)) h in
      ap (λ x. x ∷ items_of ts' fs) (item_kept f.entry.what f.bytes f.ends b.0) ∙ ap (λ x. item_of ts f ∷ x) (all_kept fs b.1)

  all_good : (fs : List Frame) → on_stack m (items_of ts fs) ≡ false → GoodFrames ts fs → GoodFrames ts' fs
  unfolding items_of on_stack
  all_good [] h g = tt
  all_good (f ∷ fs) h g =
      let b = neither (is_reading m (item_of ts f)) (on_stack m (items_of ts fs)) h in
      (frame_good f.entry.what f.bytes f.ends b.0 g.0, all_good fs b.1 g.1)

-- A text that does not lie on the stack may change, and the items stay what they are.
pub items_kept : (ts ts' : List Text) (m : Name) (fs : List Frame) → on_stack m (items_of ts fs) ≡ false
    → ((k : Name) → same_name k m ≡ false → text_of k ts' ≡ text_of k ts) → items_of ts' fs ≡ items_of ts fs
items_kept ts ts' m fs h kept = all_kept ts ts' m kept fs h

-- The frames stay good.
pub good_kept : (ts ts' : List Text) (m : Name) (fs : List Frame) → on_stack m (items_of ts fs) ≡ false
    → ((k : Name) → same_name k m ≡ false → text_of k ts' ≡ text_of k ts) → GoodFrames ts fs → GoodFrames ts' fs
good_kept ts ts' m fs h kept g = all_good ts ts' m kept fs h g

-- A text that is found is found where others stand behind it.
pub found_before : (n : Name) (a b : List Text) (t : Text) → text_of n a ≡ Some t → text_of n (a ++ b) ≡ Some t
unfolding text_of first_where
found_before n [] b t h = let z : ◌≡◌ {A = ℕ} 0 1 = cc in absurd (omega arith)
found_before n (u ∷ a) b t h = go (same_name n u.name) refl (found_before n a b t)
  where
    go : (q : Bool) → same_name n u.name ≡ q → (text_of n a ≡ Some t → text_of n (a ++ b) ≡ Some t) → text_of n (u ∷ (a ++ b)) ≡ Some t
    go true e ih = found_first n u (a ++ b) e ∙ sym (found_first n u a e) ∙ h
    go false e ih = found_later n u (a ++ b) e ∙ ih (sym (found_later n u a e) ∙ h)

-- a text is put behind the others
module _ (ts : List Text) (t : Text) where
  item_appended : (w : What) (l es : List ℕ) → GoodBy ts w l es → item_by (ts ++ t ∷ []) w l es ≡ item_by ts w l es
  item_appended (what.Reading n k c) l es g =
      ap (λ (o : Option Text). reading n (unread o k) (arguments_of l es c)) (found_before n ts (t ∷ []) g.1.0 g.1.1 ∙ sym g.1.1)
  item_appended what.Text l es g = refl
  item_appended (what.Control q n) l es g = refl
  item_appended what.Ignored l es g = refl
  item_appended (what.Others k) l es g = refl
  item_appended (what.Acts r) l es g = refl
  item_appended (what.Ejects p) l es g = refl

  frame_appended : (w : What) (l es : List ℕ) → GoodBy ts w l es → GoodBy (ts ++ t ∷ []) w l es
  frame_appended (what.Reading n k c) l es g = (g.0, (g.1.0, found_before n ts (t ∷ []) g.1.0 g.1.1))
  frame_appended what.Text l es g = g
  frame_appended (what.Control q n) l es g = g
  frame_appended what.Ignored l es g = g
  frame_appended (what.Others k) l es g = g
  frame_appended (what.Acts r) l es g = g
  frame_appended (what.Ejects p) l es g = g

  -- The items stay what they are.
  pub items_appended : (fs : List Frame) → GoodFrames ts fs → items_of (ts ++ t ∷ []) fs ≡ items_of ts fs
  unfolding items_of
  items_appended [] g = refl
  items_appended (f ∷ fs) g =
      ap (λ x. x ∷ items_of (ts ++ t ∷ []) fs) (item_appended f.entry.what f.bytes f.ends g.0) ∙ ap (λ x. item_of ts f ∷ x) (items_appended fs g.1)

  -- The frames stay good.
  pub good_appended : (fs : List Frame) → GoodFrames ts fs → GoodFrames (ts ++ t ∷ []) fs
  good_appended [] g = g
  good_appended (f ∷ fs) g = (frame_appended f.entry.what f.bytes f.ends g.0, good_appended fs g.1)

-- A text that is called has all its lines unread.
pub unread_all : (k : Kind) (l : List ℕ) → unread_by k l 0 ≡ lines_of k l
unread_all Macro l = refl
unread_all String l = refl

-- The lines of a macro from a place on are the first one, and those from the place behind its newline on.
pub unread_first : (l : List ℕ) (k : ℕ) → k < length l → unread_by Macro l k ≡ first_line (drop k l) ∷ unread_by Macro l (k + suc (length (first_line (drop k l))))
unread_first l k h =
    lines_first (drop k l) (omega (arith, length-drop k l)) ∙ ap (λ x. first_line (drop k l) ∷ lines x) (drop-drop (suc (length (first_line (drop k l)))) k l)

-- At its end there are none.
pub unread_none : (l : List ℕ) (k : ℕ) → length l ≤ k → unread_by Macro l k ≡ []
unfolding lines
unread_none l k h = ap lines (drop_of_length-le l h)

-- "A string called as a macro is one line": once it is read there is none.
pub unread_string : (l : List ℕ) (k : ℕ) → 0 < k → unread_by String l k ≡ []
unread_string l zero h = absurd (omega arith)
unread_string l (suc k) h = refl
