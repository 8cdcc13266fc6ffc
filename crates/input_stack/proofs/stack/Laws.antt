-- Copies into and out of the lent arrays, and the frames below them. Assumes nothing.
use mathlib.Core.Path.{◌≡◌, refl, sym, ap, ◌∙◌, subst}
use mathlib.Core.Bool.{Bool, true, false, ◌||◌}
use mathlib.Core.List.{List, ◌∷◌, ◌++◌, append_assoc}
use Prim.Native.Nat.{ℕ, zero, suc, ◌+◌, ◌*◌, ◌≤◌, ◌<◌}
use native.Mathlib.Numerals.{add-one}
use native.Mathlib.Omega.{arith}
use lib.Dec.{eqb}
use borrow.Author.Tests.{eqb-true, eqb-false}
use lib.ListN.{length, take, drop, set, length-set}
use lib.Seq.{paste, length-paste, length_paste_head, take-take, take_all, length-take-le, take-append-le, drop_at, take_at, get_or-set_same, get_or-set_other, take-set-le, take-length}
use Rattle.std.specs.List.{list_any, range_with_len}
use Rattle.rules.specs.declared.Name.{Name}
use Rattle.input_stack.specs.declared.frames.What.{What}
use Rattle.input_stack.specs.declared.stack.Entry.{Entry}
use Rattle.input_stack.specs.declared.stack.Stack.{Stack}
use Rattle.input_stack.specs.declared.frames.Words.{Words}
use Rattle.input_stack.specs.Frames.Words.{item_words, what_in}
use Rattle.input_stack.specs.Stack.Frames.{frame, frame_entry, entry_at, entered, frame_at, frames_to, StackInvariant, PushedTo, is_called, called_below}
use Rattle.input_stack.specs.Stack.FrameLaws.{entry_is, entry_within, frames_kept}

-- what is before a copy stays
pub before_copy : (d : List ℕ) (at : ℕ) (s : List ℕ) (n : ℕ) → at ≤ length d → n ≤ length s → take at (paste d at s n) ≡ take at d
before_copy d at s n h k =
    let a : length (take at d) ≡ at = length-take-le at d h in
    take-append-le at (take at d ++ take n s) (drop (at + n) d) (omega (arith, length_paste_head d at s n h k))
    ∙ take-append-le at (take at d) (take n s) (omega arith) ∙ take_all at (take at d) (omega arith)

-- the copy itself
pub copied : (d : List ℕ) (at : ℕ) (s : List ℕ) (n : ℕ) → at ≤ length d → n ≤ length s → take n (drop at (paste d at s n)) ≡ take n s
copied d at s n h k =
    ap (λ l. take n (drop at l)) (append_assoc (take at d) (take n s) (drop (at + n) d))
    ∙ ap (take n) (drop_at (take at d) (take n s ++ drop (at + n) d) at (length-take-le at d h)) ∙ take_at (take n s) (drop (at + n) d) n (length-take-le n s k)

-- an entry in its words
module _ (ps : List ℕ) (at : ℕ) (w : Words) (n : ℕ) where
  pub entered_length : length (entered ps at w n) ≡ length ps
  entered_length = simp length-set

  entered_before : take at (entered ps at w n) ≡ take at ps
  entered_before =
      take-set-le at (set (set (set ps at w.first) (at + 1) w.second) (at + 2) w.third) (at + 3) n (omega arith)
      ∙ take-set-le at (set (set ps at w.first) (at + 1) w.second) (at + 2) w.third (omega arith)
      ∙ take-set-le at (set ps at w.first) (at + 1) w.second (omega arith) ∙ take-set-le at ps at w.first (omega arith)

-- the words of one
module _ (ps : List ℕ) (i : ℕ) (w : Words) (n : ℕ) (l : i * 13 + 4 ≤ length ps) where
  abbrev p₁ : List ℕ
  p₁ = set ps (i * 13) w.first

  abbrev p₂ : List ℕ
  p₂ = set p₁ (i * 13 + 1) w.second

  abbrev p₃ : List ℕ
  p₃ = set p₂ (i * 13 + 2) w.third

  l₁ : length p₁ ≡ length ps
  l₁ = length-set ps (i * 13) w.first

  l₂ : length p₂ ≡ length ps
  l₂ = length-set p₁ (i * 13 + 1) w.second ∙ l₁

  l₃ : length p₃ ≡ length ps
  l₃ = length-set p₂ (i * 13 + 2) w.third ∙ l₂

  entered_entry : entry_at (set p₃ (i * 13 + 3) n) i ≡ frame_entry (what_in w) n
  entered_entry =
      entry_is (set p₃ (i * 13 + 3) n) i w.first w.second w.third n
      (get_or-set_other p₃ (i * 13 + 3) (i * 13) n 0 (λ q. absurd (omega arith)) ∙ get_or-set_other p₂ (i * 13 + 2) (i * 13) w.third 0 (λ q. absurd (omega arith))
      ∙ get_or-set_other p₁ (i * 13 + 1) (i * 13) w.second 0 (λ q. absurd (omega arith)) ∙ get_or-set_same ps (i * 13) w.first 0 (omega arith))
      (get_or-set_other p₃ (i * 13 + 3) (i * 13 + 1) n 0 (λ q. absurd (omega arith)) ∙ get_or-set_other p₂ (i * 13 + 2) (i * 13 + 1) w.third 0 (λ q. absurd (omega arith))
      ∙ get_or-set_same p₁ (i * 13 + 1) w.second 0 (omega (arith, l₁)))
      (get_or-set_other p₃ (i * 13 + 3) (i * 13 + 2) n 0 (λ q. absurd (omega arith)) ∙ get_or-set_same p₂ (i * 13 + 2) w.third 0 (omega (arith, l₂)))
      (get_or-set_same p₃ (i * 13 + 3) n 0 (omega (arith, l₃)))

-- a frame on top
module _ (s : Stack) (bs ps : List ℕ) (w : What) (l g : List ℕ) (k : StackInvariant s bs ps) (back : what_in (item_words w) ≡ w) (h : s.depth < 17) (a : length l ≤ 512) (b : length g ≡ 9) where
  abbrev d : ℕ
  d = s.depth

  abbrev e : Entry
  e = frame_entry w (length l)

  abbrev bs' : List ℕ
  bs' = paste bs (d * 512) l (length l)

  abbrev ps₁ : List ℕ
  ps₁ = entered ps (d * 13) (item_words w) (length l)

  abbrev ps' : List ℕ
  ps' = paste ps₁ (d * 13 + 4) g 9

  long₁ : length ps₁ ≡ 221
  long₁ = entered_length ps (d * 13) (item_words w) (length l) ∙ k.ends_long

  words_kept : take (d * 13 + 4) ps' ≡ take (d * 13 + 4) ps₁
  words_kept = before_copy ps₁ (d * 13 + 4) g 9 (omega (arith, long₁)) (omega arith)

  before_kept : take (d * 13) ps' ≡ take (d * 13) ps
  before_kept =
      sym (take-take (d * 13) (d * 13 + 4) ps' (omega arith)) ∙ ap (take (d * 13)) words_kept ∙ take-take (d * 13) (d * 13 + 4) ps₁ (omega arith)
      ∙ entered_before ps (d * 13) (item_words w) (length l)

  entry_on : entry_at ps' d ≡ e
  entry_on =
      entry_within (d * 13 + 4) d ps₁ ps' (omega arith) words_kept ∙ entered_entry ps d (item_words w) (length l) (omega (arith, k.ends_long))
      ∙ ap (λ (x : What). frame_entry x (length l)) back

  top_is : frame_at bs' ps' d ≡ frame e l g
  top_is =
      ap (λ (x : Entry). frame x (take x.size (drop (d * 512) bs')) (take 9 (drop (d * 13 + 4) ps'))) entry_on
      ∙ ap (λ (x : List ℕ). frame e x (take 9 (drop (d * 13 + 4) ps'))) (copied bs (d * 512) l (length l) (omega (arith, k.long)) (omega arith) ∙ take-length l)
      ∙ ap (frame e l) (copied ps₁ (d * 13 + 4) g 9 (omega (arith, long₁)) (omega arith) ∙ take_all 9 g (omega arith))

  others_are : frames_to bs' ps' d ≡ frames_to bs ps d
  others_are = frames_kept bs bs' ps ps' d (before_copy bs (d * 512) l (length l) (omega (arith, k.long)) (omega arith)) before_kept k.sizes d (omega arith)

  sizes_kept : (i : ℕ) → i < d + 1 → (entry_at ps' i).size ≤ 512
  sizes_kept i j = go (eqb i d) refl
    where
      go : (t : Bool) → eqb i d ≡ t → (entry_at ps' i).size ≤ 512
      go true q = let z = eqb-true i d q in subst (λ (x : ℕ). (entry_at ps' x).size ≤ 512) (sym z) (subst (λ (x : Entry). x.size ≤ 512) (sym entry_on) a)
      go false q =
          let z = eqb-false i d q in
          subst (λ (x : Entry). x.size ≤ 512) (sym (entry_within (d * 13) i ps ps' (omega arith) before_kept)) (k.sizes i (omega arith))

  pub pushed : PushedTo s bs ps w l g (record { depth = d + 1 }) bs' ps'
  unfolding frames_to
  pushed = record {
    frames = ap (frames_to bs' ps') (add-one d) ∙ ap (λ x. x ∷ frames_to bs' ps' d) top_is ∙ ap (λ x. frame e l g ∷ x) others_are;
    columns = record {
      few = omega arith;
      long = length-paste bs (d * 512) l (length l) (omega (arith, k.long)) (omega arith) ∙ k.long;
      ends_long = length-paste ps₁ (d * 13 + 4) g 9 (omega (arith, long₁)) (omega arith) ∙ long₁;
      sizes = sizes_kept;
    };
    depth = refl;
  }

-- which of three comes first makes no difference
or_first : (a b c : Bool) → (a || (b || c)) ≡ ((b || a) || c)
or_first true true c = refl
or_first true false c = refl
or_first false true c = refl
or_first false false c = refl

or_none : (a : Bool) → (a || false) ≡ a
or_none true = refl
or_none false = refl

-- a text lies below a depth if a frame from a row up to it is the text, or one below that row
called_from : (n : Name) (ps : List ℕ) (i k : ℕ)
    → (called_below n ps i || list_any (λ j. is_called n (entry_at ps j).what) (range_with_len i k)) ≡ called_below n ps (i + k)
unfolding called_below
called_from n ps i zero = let e : i ≡ i + 0 = omega arith in or_none (called_below n ps i) ∙ ap (called_below n ps) e
called_from n ps i (suc k) =
    let e : i + 1 + k ≡ i + suc k = omega arith in
    let is = λ (j : ℕ). is_called n (entry_at ps j).what in
    or_first (called_below n ps i) (is i) (list_any is (range_with_len (i + 1) k))
    ∙ ap (λ (b : Bool). b || list_any is (range_with_len (i + 1) k)) (sym (ap (called_below n ps) (add-one i)))
    ∙ called_from n ps (i + 1) k ∙ ap (called_below n ps) e

-- a text lies below a depth if some frame below it is the text
pub called_any : (n : Name) (ps : List ℕ) (d : ℕ) → list_any (λ j. is_called n (entry_at ps j).what) (range_with_len 0 d) ≡ called_below n ps d
unfolding called_below
called_any n ps d = let e : 0 + d ≡ d = omega arith in called_from n ps 0 d ∙ ap (called_below n ps) e
