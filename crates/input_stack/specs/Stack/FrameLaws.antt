-- Frames and entries whose words stay, and an entry with another place. Assumes nothing.
use Rattle.std.specs.Prelude.{◌≡◌, Bool, List, [], ◌∷◌, eqb, length, take, drop, get_or, set}
use Rattle.std.proofs.Math.Path.{refl, sym, ap}
use Rattle.std.proofs.Common.{◌∙◌, subst, arith, length-set, take-take, get_or-take, get_or-set_same, get_or-set_other, drop-set-lt}
use Rattle.std.proofs.Math.Bool.{true, false}
use Prim.Native.Nat.{ℕ, zero, suc, ◌+◌, ◌*◌, ◌/◌, ◌%◌, ◌≤◌, ◌<◌}
use Rattle.std.proofs.Math.Seq.{take-nil}
use Rattle.std.proofs.lemmas.List.{take-set-le}
use borrow.Author.Tests.{eqb-true, eqb-false}
use Rattle.input_stack.specs.declared.frames.What.{What}
use Rattle.input_stack.specs.declared.frames.What.TheVariants.{Reading}
use Rattle.input_stack.specs.declared.stack.Entry.{Entry}
use Rattle.input_stack.specs.Frames.Words.{name_in, what_by, what_of}
use Rattle.input_stack.specs.Stack.Frames.{frame, frame_entry, entry_at, frame_at, frames_to, moved, moved_entry, placed_by, placed_in}

drop_take : (n m : ℕ) (l : List ℕ) → drop n (take (n + m) l) ≡ take m (drop n l)
drop_take zero m l = let z : 0 + m ≡ m = omega arith in ap (λ (k : ℕ). take k l) z
drop_take (suc n) m [] = ap (drop (suc n)) (take-nil (suc n + m)) ∙ sym (take-nil m)
drop_take (suc n) m (x ∷ l) = let z : suc n + m ≡ suc (n + m) = omega arith in ap (λ (k : ℕ). drop (suc n) (take k (x ∷ l))) z ∙ drop_take n m l

-- a part that lies within the first w is theirs
part_within : (w n m : ℕ) (a b : List ℕ) → n + m ≤ w → take w a ≡ take w b → take m (drop n a) ≡ take m (drop n b)
part_within w n m a b h e =
    sym (drop_take n m a) ∙ ap (drop n) (sym (take-take (n + m) w a h) ∙ ap (take (n + m)) e ∙ take-take (n + m) w b h) ∙ drop_take n m b

word_within : (w i : ℕ) (a b : List ℕ) → i < w → take w a ≡ take w b → get_or a i 0 ≡ get_or b i 0
word_within w i a b h e = sym (get_or-take w a i 0 h) ∙ ap (λ (l : List ℕ). get_or l i 0) e ∙ get_or-take w b i 0 h

-- An entry is that of its words.
pub entry_is : (ps : List ℕ) (i a b c n : ℕ) → get_or ps (i * 13) 0 ≡ a → get_or ps (i * 13 + 1) 0 ≡ b → get_or ps (i * 13 + 2) 0 ≡ c → get_or ps (i * 13 + 3) 0 ≡ n
    → entry_at ps i ≡ frame_entry (what_of a b c) n
unfolding entry_at
entry_is ps i a b c n p q r s = rw (p, q, r, s)

-- An entry stays where its words do.
pub entry_within : (w i : ℕ) (ps ps' : List ℕ) → i * 13 + 4 ≤ w → take w ps' ≡ take w ps → entry_at ps' i ≡ entry_at ps i
unfolding entry_at
entry_within w i ps ps' h e =
    entry_is ps' i (get_or ps (i * 13) 0) (get_or ps (i * 13 + 1) 0) (get_or ps (i * 13 + 2) 0) (get_or ps (i * 13 + 3) 0)
    (word_within w (i * 13) ps' ps (omega arith) e) (word_within w (i * 13 + 1) ps' ps (omega arith) e)
    (word_within w (i * 13 + 2) ps' ps (omega arith) e) (word_within w (i * 13 + 3) ps' ps (omega arith) e)

-- frames below a depth, where bytes and words up to it are the same
module _ (bs bs' ps ps' : List ℕ) (d : ℕ) (b : take (d * 512) bs' ≡ take (d * 512) bs) (p : take (d * 13) ps' ≡ take (d * 13) ps) (z : (i : ℕ) → i < d → (entry_at ps i).size ≤ 512) where
  frame_kept : (i : ℕ) → i < d → frame_at bs' ps' i ≡ frame_at bs ps i
  frame_kept i h =
      let q = z i h in
      ap (λ (x : Entry). frame x (take x.size (drop (i * 512) bs')) (take 9 (drop (i * 13 + 4) ps'))) (entry_within (d * 13) i ps ps' (omega arith) p)
      ∙ ap (λ (l : List ℕ). frame (entry_at ps i) l (take 9 (drop (i * 13 + 4) ps'))) (part_within (d * 512) (i * 512) (entry_at ps i).size bs' bs (omega arith) b)
      ∙ ap (frame (entry_at ps i) (take (entry_at ps i).size (drop (i * 512) bs))) (part_within (d * 13) (i * 13 + 4) 9 ps' ps (omega arith) p)

  -- They are the same.
  pub frames_kept : (k : ℕ) → k ≤ d → frames_to bs' ps' k ≡ frames_to bs ps k
  unfolding frames_to
  frames_kept zero h = refl
  frames_kept (suc k) h = ap (λ x. x ∷ frames_to bs' ps' k) (frame_kept k (omega arith)) ∙ ap (λ x. frame_at bs ps k ∷ x) (frames_kept k (omega arith))

-- a text, and what is none
what_text : (a b c : ℕ) → a % 256 ≡ 0 → what_of a b c ≡ Reading (name_in b) c (a / 256)
unfolding what_of
what_text a b c e = ap (λ (k : ℕ). what_by k (a / 256) b c) e

by_other : (k s b c p : ℕ) → 0 < k → moved p (what_by k s b c) ≡ what_by k s b c
by_other zero s b c p h = absurd (omega arith)
by_other (suc zero) s b c p h = refl
by_other (suc (suc zero)) s b c p h = refl
by_other (suc (suc (suc zero))) s b c p h = refl
by_other (suc (suc (suc (suc zero)))) s b c p h = refl
by_other (suc (suc (suc (suc (suc zero))))) s b c p h = refl
by_other (suc (suc (suc (suc (suc (suc zero)))))) s b c p h = refl
by_other (suc (suc (suc (suc (suc (suc (suc k))))))) s b c p h = refl

what_other : (a b c p : ℕ) → 0 < a % 256 → moved p (what_of a b c) ≡ what_of a b c
unfolding what_of
what_other a b c p h = by_other (a % 256) (a / 256) b c p h

-- another place in a row
module _ (ps : List ℕ) (i p : ℕ) where
  abbrev first : ℕ
  first = get_or ps (i * 13) 0

  entry_by : (t : Bool) → eqb (first % 256) 0 ≡ t → i * 13 + 4 ≤ length ps → entry_at (placed_by t ps (i * 13) p) i ≡ moved_entry p (entry_at ps i)
  unfolding entry_at
  entry_by true e l =
      let z = eqb-true (first % 256) 0 e in
      entry_is (set ps (i * 13 + 2) p) i first (get_or ps (i * 13 + 1) 0) p (get_or ps (i * 13 + 3) 0)
      (get_or-set_other ps (i * 13 + 2) (i * 13) p 0 (λ q. absurd (omega arith))) (get_or-set_other ps (i * 13 + 2) (i * 13 + 1) p 0 (λ q. absurd (omega arith)))
      (get_or-set_same ps (i * 13 + 2) p 0 (omega arith)) (get_or-set_other ps (i * 13 + 2) (i * 13 + 3) p 0 (λ q. absurd (omega arith)))
      ∙ ap (λ (w : What). frame_entry w (get_or ps (i * 13 + 3) 0)) (what_text first (get_or ps (i * 13 + 1) 0) p z)
      ∙ sym (ap (λ (w : What). frame_entry (moved p w) (get_or ps (i * 13 + 3) 0)) (what_text first (get_or ps (i * 13 + 1) 0) (get_or ps (i * 13 + 2) 0) z))
  entry_by false e l =
      let z = eqb-false (first % 256) 0 e in
      sym (ap (λ (w : What). frame_entry w (get_or ps (i * 13 + 3) 0)) (what_other first (get_or ps (i * 13 + 1) 0) (get_or ps (i * 13 + 2) 0) p (omega arith)))

  -- The entry there has that place.
  pub placed_entry : i * 13 + 4 ≤ length ps → entry_at (placed_in ps i p) i ≡ moved_entry p (entry_at ps i)
  placed_entry l = entry_by (eqb (first % 256) 0) refl l

  before_by : (t : Bool) → take (i * 13) (placed_by t ps (i * 13) p) ≡ take (i * 13) ps
  before_by true = take-set-le (i * 13) ps (i * 13 + 2) p (omega arith)
  before_by false = refl

  behind_by : (t : Bool) → drop (i * 13 + 4) (placed_by t ps (i * 13) p) ≡ drop (i * 13 + 4) ps
  behind_by true = drop-set-lt (i * 13 + 4) ps (i * 13 + 2) p (omega arith)
  behind_by false = refl

  length_by : (t : Bool) → length (placed_by t ps (i * 13) p) ≡ length ps
  length_by true = length-set ps (i * 13 + 2) p
  length_by false = refl

  -- What stands before and behind it stays.
  pub placed_before : take (i * 13) (placed_in ps i p) ≡ take (i * 13) ps
  placed_before = before_by (eqb (first % 256) 0)

  pub placed_behind : drop (i * 13 + 4) (placed_in ps i p) ≡ drop (i * 13 + 4) ps
  placed_behind = behind_by (eqb (first % 256) 0)

  pub placed_length : length (placed_in ps i p) ≡ length ps
  placed_length = length_by (eqb (first % 256) 0)

  -- The sizes up to it stay.
  pub placed_size : (j : ℕ) → i * 13 + 4 ≤ length ps → j ≤ i → (entry_at (placed_in ps i p) j).size ≡ (entry_at ps j).size
  placed_size j l h = go (eqb j i) refl
    where
      go : (t : Bool) → eqb j i ≡ t → (entry_at (placed_in ps i p) j).size ≡ (entry_at ps j).size
      go true e = let z = eqb-true j i e in subst (λ (k : ℕ). (entry_at (placed_in ps i p) k).size ≡ (entry_at ps k).size) (sym z) (ap (λ (x : Entry). x.size) (placed_entry l))
      go false e = let z = eqb-false j i e in ap (λ (x : Entry). x.size) (entry_within (i * 13) j ps (placed_in ps i p) (omega arith) placed_before)
