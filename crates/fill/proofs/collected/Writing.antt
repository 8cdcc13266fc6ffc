-- Laws of bytes written into an array, as the code writes them. Assumes nothing.
use mathlib.Core.Path.{◌≡◌, refl, sym, ap, ◌∙◌}
use mathlib.Core.Bool.{Bool, true, false}
use mathlib.Core.List.{List, [], ◌∷◌, ◌++◌}
use Prim.Native.Nat.{ℕ, zero, suc, ◌+◌, ◌-◌, ◌≤◌, ◌<◌}
use native.Mathlib.Nat.{add-zero}
use native.Mathlib.Numerals.{add-one}
use native.Mathlib.Omega.{arith}
use lib.Dec.{eqb}
use lib.ListN.{length, get_or, take, drop, set, replicate, length-append, length-replicate, length-set, take-append-drop, drop_of_length-le}
use Rattle.std.proofs.lemmas.List.{take_all}
use lib.Seq.{drop-cons, paste, sets, sets-eq, take_at, drop_at, length-take-le}
use borrow.Author.Tests.{eq-eqb, ne_eqb}
use Rattle.rules.specs.Bytes.{space, mark, fixed_blank}
use Rattle.rules.specs.Filling.{printed, printed_byte, width, count_if, gap_cells}
use Rattle.rules.proofs.Laws.Filling.{printed_append}
use Rattle.fill.specs.Words.Parts.{bytes_between}
use Rattle.fill.specs.Collected.Writing.{shown_if, Written}
use Rattle.fill.proofs.words.Parts.{part_length}

-- two runs of bytes, one behind the other
pub sets_append : (a b l : List ℕ) (i : ℕ) → sets l i (a ++ b) ≡ sets (sets l i a) (i + length a) b
sets_append [] b l i = rw add-zero
sets_append (x ∷ a) b l i =
    let z : suc i + length a ≡ i + suc (length a) = omega arith in
    sets_append a b (set l i x) (suc i) ∙ ap (λ (k : ℕ). sets (sets (set l i x) (suc i) a) k b) z

module _ (b l : List ℕ) (at : ℕ) (h : at + length b ≤ length l) where
  -- what stands up to their end, and behind it
  pub take_sets : take (at + length b) (sets l at b) ≡ take at l ++ b
  take_sets =
      let n : length (take at l) ≡ at = length-take-le at l (omega arith) in
      ap (take (at + length b)) (sets-eq b l at h)
      ∙ take_at (take at l ++ b) (drop (at + length b) l) (at + length b) (omega (arith, length-append (take at l) b))

  pub drop_sets : drop (at + length b) (sets l at b) ≡ drop (at + length b) l
  drop_sets =
      let n : length (take at l) ≡ at = length-take-le at l (omega arith) in
      ap (drop (at + length b)) (sets-eq b l at h)
      ∙ drop_at (take at l ++ b) (drop (at + length b) l) (at + length b) (omega (arith, length-append (take at l) b))

-- bytes put over a part
pub paste_sets : (d s : List ℕ) (at n : ℕ) → n ≡ length s → at + n ≤ length d → paste d at s n ≡ sets d at s
paste_sets d s at n e h = rw (e, take_all (length s) s (omega arith)) (sym (sets-eq s d at (omega (arith, e, h))))

-- a byte that is no mark, as printed
printed_shown : (t : Bool) (b : ℕ) (bs : List ℕ) → printed_byte false t b bs ≡ shown_if t b ∷ bs
printed_shown true b bs = refl
printed_shown false b bs = refl

-- a mark; another byte; the end
module _ (l : List ℕ) (i : ℕ) where
  printed_mark : i < length l → get_or l i 0 ≡ 2 → printed (drop i l) ≡ printed (drop (i + 1) l)
  unfolding printed
  printed_mark h e = rw (drop-cons l i 0 h, eq-eqb (get_or l i 0) 2 e, add-one i)

  printed_other : i < length l → (get_or l i 0 ≡ 2 → ⊥)
      → printed (drop i l) ≡ shown_if (eqb (get_or l i 0) fixed_blank) (get_or l i 0) ∷ printed (drop (i + 1) l)
  unfolding printed
  printed_other h e =
      rw (drop-cons l i 0 h, ne_eqb (get_or l i 0) 2 e, add-one i) (printed_shown (eqb (get_or l i 0) fixed_blank) (get_or l i 0) (printed (drop (suc i) l)))

  printed_end : length l ≤ i → printed (drop i l) ≡ []
  unfolding printed
  printed_end h = rw (drop_of_length-le l {i = i} h)

-- what is still to be put from a byte on
pub record Putting (part entry : List ℕ) (at : ℕ) (buffer : List ℕ) (i n : ℕ) : Type 0 where
  pub long : length buffer ≡ length entry
  pub is : sets entry at (printed part) ≡ sets buffer n (printed (drop i part))
  pub end : at + length (printed part) ≡ n + length (printed (drop i part))

module _ (part entry : List ℕ) (at : ℕ) (buffer : List ℕ) (i n : ℕ) (q : Putting part entry at buffer i n) where
  pub put_mark : i < length part → get_or part i 0 ≡ 2 → Putting part entry at buffer (i + 1) n
  put_mark h e =
      let p = printed_mark part i h e in
      record { long = q.long; is = q.is ∙ ap (sets buffer n) p; end = q.end ∙ ap (λ (l : List ℕ). n + length l) p }

  module _ (h : i < length part) (e : get_or part i 0 ≡ 2 → ⊥) where
    -- there is a place for the byte
    pub put_room : at + length (printed part) ≤ length entry → n < length buffer
    put_room r = omega (arith, q.end, q.long, ap length (printed_other part i h e))

    pub put_byte : Putting part entry at (set buffer n (shown_if (eqb (get_or part i 0) fixed_blank) (get_or part i 0))) (i + 1) (n + 1)
    put_byte =
        let p = printed_other part i h e in
        record { long = length-set buffer n _ ∙ q.long; is = q.is ∙ ap (sets buffer n) p ∙ rw (add-one n); end = omega (arith, q.end, ap length p) }

  pub put_done : length part ≤ i → Written entry at (printed part) buffer n
  put_done h =
      let p = printed_end part i h in
      record { is = sym (q.is ∙ ap (sets buffer n) p); end = omega (arith, q.end, ap length p); long = q.long }

-- fixed blanks are printed as spaces
pub printed_blanks : (n : ℕ) → printed (replicate n fixed_blank) ≡ replicate n space
unfolding printed
printed_blanks zero = refl
printed_blanks (suc n) = ap (λ (l : List ℕ). space ∷ l) (printed_blanks n)

pub width_short : (l : List ℕ) → width l ≤ length l
unfolding width
width_short [] = omega arith
width_short (b ∷ l) = go (eqb b mark) (width l) (width_short l)
  where
    go : (t : Bool) (n : ℕ) → n ≤ length l → count_if t n ≤ suc (length l)
    go true n h = omega arith
    go false n h = omega arith

pub part_width : (l : List ℕ) (at to : ℕ) → to ≤ length l → width (bytes_between l at to) ≤ to - at
part_width l at to h = omega (arith, width_short (bytes_between l at to), part_length l at to h)

-- a gap
pub gap_cells_lem : (l : List ℕ) (n g : ℕ) → 0 < g → sets (set l n 4) (n + 1) (replicate (g - 1) 32) ≡ sets l n (gap_cells g)
gap_cells_lem l n zero h = absurd (omega arith)
gap_cells_lem l n (suc g) h = let z : suc g - 1 ≡ g = omega arith in rw (z, add-one n)

-- leading spaces and the first word
module _ (l p : List ℕ) (n : ℕ) where
  pub begin_cells : sets (sets l 0 (replicate n space)) n (printed p) ≡ sets l 0 (printed (replicate n fixed_blank ++ p))
  begin_cells =
      let z : 0 + length (replicate n space) ≡ n = omega (arith, length-replicate n space) in
      sym (ap (sets l 0) (printed_append (replicate n fixed_blank) p ∙ ap (λ (x : List ℕ). x ++ printed p) (printed_blanks n))
      ∙ sets_append (replicate n space) (printed p) l 0 ∙ ap (λ (k : ℕ). sets (sets l 0 (replicate n space)) k (printed p)) z)

  pub begin_length : n + length (printed p) ≡ 0 + length (printed (replicate n fixed_blank ++ p))
  begin_length =
      omega (arith, ap length (printed_append (replicate n fixed_blank) p), length-append (printed (replicate n fixed_blank)) (printed p), ap length (printed_blanks n), length-replicate n space)

-- what stands in the array up to the answer, and behind it
module _ {e : List ℕ} {at : ℕ} {b x : List ℕ} {r : ℕ} (w : Written e at b x r) (h : r ≤ length e) where
  room : at + length b ≤ length e
  room = omega (arith, w.end)

  pub written_take : take r x ≡ take at e ++ b
  written_take = (λ i. take (w.end i) (w.is i)) ∙ take_sets b e at room

  pub written_drop : drop r x ≡ drop r e
  written_drop = (λ i. drop (w.end i) (w.is i)) ∙ drop_sets b e at room ∙ ap (λ (k : ℕ). drop k e) (sym w.end)

-- from the start: the bytes, then the old ones
pub written_front : {e b x : List ℕ} {r : ℕ} → Written e 0 b x r → r ≤ length e → x ≡ b ++ drop r e
written_front {x = x} {r = r} w h = sym (take-append-drop r x) ∙ (λ i. written_take w h i ++ written_drop w h i)
