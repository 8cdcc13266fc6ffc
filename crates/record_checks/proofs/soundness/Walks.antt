-- How the tests of the places in a frame and of the frames on the stack go on. Assumes nothing.
use mathlib.Core.Path.{◌≡◌, refl, sym, ap, ◌∙◌}
use mathlib.Core.Bool.{Bool, true, false, ◌&&◌}
use mathlib.Core.List.{List}
use Prim.Native.Nat.{ℕ, zero, suc, ◌+◌, ◌-◌, ◌*◌, ◌≤◌, ◌<◌}
use native.Mathlib.Nat.{add-zero}
use native.Mathlib.Numerals.{add-one}
use native.Mathlib.Omega.{arith}
use lib.Dec.{leb}
use lib.ListN.{length, take, drop, get_or, drop_of_length-le}
use lib.Seq.{drop-cons, take-take}
use borrow.Author.Tests.{leb-true, le-leb, lt-leb}
use Rattle.rules.specs.declared.Name.{Name}
use Rattle.rules.specs.Laws.Refusals.{both}
use Rattle.input_stack.specs.declared.stack.Stack.{Stack}
use Rattle.input_stack.specs.Stack.Frames.{entry_at, top_entry}
use Rattle.page.specs.Springs.Held.{is_text, limit_by}
use Rattle.record_checks.specs.Soundness.Checks.{ends_in_order, are_arguments, is_frame, are_frames, is_depth, is_stack}

-- the places in a frame where its arguments end
pub given_is : (ps : List ℕ) (at count n : ℕ) → n ≡ count → count ≤ 9 → take count (take 9 (drop at ps)) ≡ take (at + n - at) (drop at ps)
given_is ps at count n e h =
    let z : at + n - at ≡ count = omega arith in
    rw z (take-take count 9 (drop at ps) h)

-- the place at i, with the value v
module _ (from end : ℕ) (l : List ℕ) (i v : ℕ) (h : i < length l) (e : get_or l i 0 ≡ v) where
  order_cons : ends_in_order from end (drop i l) ≡ (leb from v && leb v end && ends_in_order v end (drop (i + 1) l))
  unfolding ends_in_order
  order_cons =
      ap (ends_in_order from end) (drop-cons l i 0 h) ∙ ap (λ (x : ℕ). leb from x && leb x end && ends_in_order x end (drop (suc i) l)) e
      ∙ ap (λ (j : ℕ). leb from v && leb v end && ends_in_order v end (drop j l)) (sym (add-one i))

  pub order_before : v < from → ends_in_order from end (drop i l) ≡ false
  order_before k = order_cons ∙ rw (lt-leb from v k)

  pub order_past : from ≤ v → end < v → ends_in_order from end (drop i l) ≡ false
  order_past j k = order_cons ∙ rw (le-leb from v j, lt-leb v end k)

  pub order_on : from ≤ v → v ≤ end → ends_in_order from end (drop i l) ≡ ends_in_order v end (drop (i + 1) l)
  order_on j k = order_cons ∙ rw (le-leb from v j, le-leb v end k)

pub order_end : (from end : ℕ) (l : List ℕ) (i : ℕ) → length l ≤ i → ends_in_order from end (drop i l) ≡ true
unfolding ends_in_order
order_end from end l i h = ap (ends_in_order from end) (drop_of_length-le l h)

pub arguments_few : (es : List ℕ) (n size : ℕ) → n ≤ 9 → are_arguments es n size ≡ ends_in_order 0 size (take n es)
arguments_few es n size h = rw (le-leb n 9 h)

-- the frames below a depth, and the one at it
frames_next : (ns : List Name) (ps : List ℕ) (i : ℕ) → are_frames ns ps (i + 1) ≡ (is_frame ns (entry_at ps i) (take 9 (drop (i * 13 + 4) ps)) && are_frames ns ps i)
unfolding are_frames
frames_next ns ps i = rw (add-one i)

pub frames_by : (ns : List Name) (ps : List ℕ) (i : ℕ) (v : Bool) → v ≡ is_frame ns (entry_at ps i) (take 9 (drop (i * 13 + 4) ps)) → are_frames ns ps i ≡ true → are_frames ns ps (i + 1) ≡ v
frames_by ns ps i v e h = frames_next ns ps i ∙ (λ j. sym e j && h j) ∙ all v
  where
    all : (v : Bool) → (v && true) ≡ v
    all true = refl
    all false = refl

-- once a frame fails, no more frames mend it
pub frames_fail : (ns : List Name) (ps : List ℕ) (i n : ℕ) → are_frames ns ps i ≡ false → are_frames ns ps (i + n) ≡ false
frames_fail ns ps i zero h = rw add-zero h
frames_fail ns ps i (suc n) h =
    let z : i + suc n ≡ i + n + 1 = omega arith in
    rw z (frames_next ns ps (i + n) ∙ ap (λ (b : Bool). is_frame ns (entry_at ps (i + n)) (take 9 (drop ((i + n) * 13 + 4) ps)) && b) (frames_fail ns ps i n h) ∙ none (is_frame ns (entry_at ps (i + n)) (take 9 (drop ((i + n) * 13 + 4) ps))))
  where
    none : (b : Bool) → (b && false) ≡ false
    none true = refl
    none false = refl

pub frames_none : (ns : List Name) (ps : List ℕ) → are_frames ns ps 0 ≡ true
unfolding are_frames
frames_none ns ps = refl

-- a stack of a depth that passes its test has at most 17 frames
pub depth_most : (s : Stack) (ps : List ℕ) → is_depth s ps ≡ true → s.depth ≤ 17
depth_most s ps h = leb-true s.depth 17 (both (leb s.depth 17) (leb s.depth (limit_by (is_text (top_entry s ps).what))) h).0

-- a stack of such a depth keeps to its limits if its frames do
pub stack_by : (ns : List Name) (s : Stack) (ps : List ℕ) (v : Bool) → is_depth s ps ≡ true → are_frames ns ps s.depth ≡ v → v ≡ is_stack ns s ps
unfolding is_stack
stack_by ns s ps v d e = rw (d, e)
