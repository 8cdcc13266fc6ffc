-- Rows as they are written. Assumes nothing.
use mathlib.Core.Path.{◌≡◌, refl, sym, ap, ◌∙◌}
use mathlib.Core.Bool.{Bool, true, false, ◌||◌}
use mathlib.Core.List.{List, [], ◌∷◌, ◌++◌, append_assoc, append-nil}
use Prim.Native.Nat.{ℕ, zero, suc, ◌+◌, ◌-◌, ◌≤◌, ◌<◌}
use native.Mathlib.Nat.{div-le_self}
use native.Mathlib.Omega.{arith}
use lib.Dec.{eqb, ltb}
use lib.ListN.{length, get_or, take, set, replicate, length-append, length-replicate, length-set}
use lib.Seq.{sets, length-sets, length-take-le}
use borrow.Author.Tests.{eqb-true, lt-ltb}
use Rattle.rules.specs.Bytes.{newline, space, mark, fixed_blank}
use Rattle.rules.specs.Filling.{words, gaps, spread, adjusted, trimmed, printed, printed_byte, spelled, span, width, row, left}
use Rattle.rules.proofs.Laws.Filling.{trimmed_blank, trimmed_spaces, trimmed_ends, trimmed_short, printed_append, printed_length, spelled_width, level_length, share_length, adjusted_alone}
use Rattle.rules.specs.Laws.Lines.{spelled_words}
use Rattle.fill.specs.Words.Parts.{bytes_between}
use Rattle.fill.specs.Collected.Writing.{Written}
use Rattle.fill.specs.Collected.Filled.{collected_line}
use Rattle.fill.specs.Unfilled.Lines.{CellsEnd, is_blank_byte, TextEnd, one_if}
use Rattle.fill.proofs.words.Parts.{part_none, part_snoc}
use Rattle.fill.proofs.collected.Writing.{sets_append}
use Rattle.fill.proofs.unfilled.Spreading.{end_last}

-- blanks, a text and a newline, one behind the other
module _ (r b : List ℕ) (n : ℕ) where
  pub row_set : set (sets (sets r 0 (replicate n 32)) n b) (n + length b) 10 ≡ sets r 0 (replicate n space ++ b ++ newline ∷ [])
  row_set =
      let z : 0 + length (replicate n space) ≡ n = omega (arith, length-replicate n space) in
      let y : 0 + length (replicate n space ++ b) ≡ n + length b = omega (arith, length-append (replicate n space) b, length-replicate n space) in
      sym (sets_append (replicate n space ++ b) (newline ∷ []) r 0
      ∙ (λ i. set (sets_append (replicate n space) b r 0 i) (y i) newline)
      ∙ ap (λ (k : ℕ). set (sets (sets r 0 (replicate n space)) k b) (n + length b) newline) z)

  pub row_count : n + length b + 1 ≡ 0 + length (replicate n space ++ b ++ newline ∷ [])
  row_count = omega (arith, length-append (replicate n space ++ b) (newline ∷ []), length-append (replicate n space) b, length-replicate n space)

-- a row of which only blanks would be written
blank_row : (n : ℕ) (b : List ℕ) → b ≡ [] → trimmed (replicate n space ++ b) ≡ []
blank_row n b e = ap (λ (x : List ℕ). trimmed (replicate n space ++ x)) e ∙ ap trimmed (append-nil (replicate n space)) ∙ trimmed_blank n

module _ (cells : List ℕ) (count end : ℕ) (k : count ≤ length cells) (e : CellsEnd cells count end) (n each few : ℕ) where
  pub cells_none : end ≡ 0 → newline ∷ [] ≡ row n (spread each few (bytes_between cells 0 count))
  unfolding spread
  cells_none h =
      sym (ap (λ (x : List ℕ). x ++ newline ∷ [])
      (e.is n each few ∙ blank_row n (spread each few (bytes_between cells 0 end)) (ap (spread each few) (part_none cells 0 end (omega arith)))))

  pub cells_row : 0 < end → replicate n space ++ spread each few (bytes_between cells 0 end) ++ newline ∷ [] ≡ row n (spread each few (bytes_between cells 0 count))
  cells_row h = sym (ap (λ (x : List ℕ). x ++ newline ∷ []) (e.is n each few ∙ end_last cells end (omega (arith, e.high)) n each few h (e.last h)))

  pub cells_short : 0 < end → length (spread each few (bytes_between cells 0 end)) ≤ length (spread each few (bytes_between cells 0 count))
  cells_short h =
      omega (arith, trimmed_short (spread each few (bytes_between cells 0 count)), ap length (e.is 0 each few ∙ end_last cells end (omega (arith, e.high)) 0 each few h (e.last h)))

-- what is printed of a byte at the end
byte_trim : (l : List ℕ) (b : ℕ) → is_blank_byte b ≡ true → trimmed (l ++ printed (b ∷ [])) ≡ trimmed l
unfolding printed
byte_trim l b h = go (eqb b mark) refl (eqb b fixed_blank) refl (eqb b space) refl h
  where
    go : (t : Bool) → eqb b mark ≡ t → (u : Bool) → eqb b fixed_blank ≡ u → (v : Bool) → eqb b space ≡ v → v || (u || t) ≡ true → trimmed (l ++ printed_byte t u b []) ≡ trimmed l
    go true e u f v g h = ap trimmed (append-nil l)
    go false e true f v g h = trimmed_spaces l 1
    go false e false f true g h = ap (λ (x : ℕ). trimmed (l ++ x ∷ [])) (eqb-true b space g) ∙ trimmed_spaces l 1
    go false e false f false g h = absurd (let z : ◌≡◌ {A = ℕ} 0 1 = cc in omega arith)

byte_solid : (b : ℕ) → is_blank_byte b ≡ false → printed (b ∷ []) ≡ b ∷ []
unfolding printed
byte_solid b h = go (eqb b mark) (eqb b fixed_blank) (eqb b space) h
  where
    go : (t u v : Bool) → v || (u || t) ≡ false → printed_byte t u b [] ≡ b ∷ []
    go true u true h = absurd (let z : ◌≡◌ {A = ℕ} 0 1 = cc in omega arith)
    go true true false h = absurd (let z : ◌≡◌ {A = ℕ} 0 1 = cc in omega arith)
    go true false false h = absurd (let z : ◌≡◌ {A = ℕ} 0 1 = cc in omega arith)
    go false true true h = absurd (let z : ◌≡◌ {A = ℕ} 0 1 = cc in omega arith)
    go false true false h = absurd (let z : ◌≡◌ {A = ℕ} 0 1 = cc in omega arith)
    go false false v h = refl

byte_space : (b : ℕ) → is_blank_byte b ≡ false → eqb b space ≡ false
byte_space b h = go (eqb b space) (eqb b fixed_blank || eqb b mark) h
  where
    go : (u t : Bool) → u || t ≡ false → u ≡ false
    go true t h = h
    go false t h = refl

module _ (l : List ℕ) (at i : ℕ) (k : i ≤ length l) (n : ℕ) (h : at < i) where
  text_snoc : replicate n space ++ printed (bytes_between l at i) ≡ (replicate n space ++ printed (bytes_between l at (i - 1))) ++ printed (get_or l (i - 1) 0 ∷ [])
  text_snoc =
      ap (λ (x : List ℕ). replicate n space ++ printed x) (part_snoc l at i h k)
      ∙ ap (λ (x : List ℕ). replicate n space ++ x) (printed_append (bytes_between l at (i - 1)) (get_or l (i - 1) 0 ∷ []))
      ∙ sym (append_assoc (replicate n space) (printed (bytes_between l at (i - 1))) (printed (get_or l (i - 1) 0 ∷ [])))

  pub text_more : is_blank_byte (get_or l (i - 1) 0) ≡ true
      → trimmed (replicate n space ++ printed (bytes_between l at i)) ≡ trimmed (replicate n space ++ printed (bytes_between l at (i - 1)))
  text_more e = ap trimmed text_snoc ∙ byte_trim (replicate n space ++ printed (bytes_between l at (i - 1))) (get_or l (i - 1) 0) e

  text_last : is_blank_byte (get_or l (i - 1) 0) ≡ false → trimmed (replicate n space ++ printed (bytes_between l at i)) ≡ replicate n space ++ printed (bytes_between l at i)
  text_last e =
      let r = text_snoc ∙ ap (λ (x : List ℕ). (replicate n space ++ printed (bytes_between l at (i - 1))) ++ x) (byte_solid (get_or l (i - 1) 0) e) in
      ap trimmed r ∙ trimmed_ends (replicate n space ++ printed (bytes_between l at (i - 1))) (get_or l (i - 1) 0) (byte_space (get_or l (i - 1) 0) e) ∙ sym r

module _ (l : List ℕ) (at to end : ℕ) (k : to ≤ length l) (e : TextEnd l at to end) (n : ℕ) where
  pub text_none : end ≡ at → newline ∷ [] ≡ row n (printed (bytes_between l at to))
  unfolding printed
  text_none h =
      sym (ap (λ (x : List ℕ). x ++ newline ∷ [])
      (e.is n ∙ blank_row n (printed (bytes_between l at end)) (ap printed (part_none l at end (omega arith)))))

  pub text_row_lem : at < end → replicate n space ++ printed (bytes_between l at end) ++ newline ∷ [] ≡ row n (printed (bytes_between l at to))
  text_row_lem h = sym (ap (λ (x : List ℕ). x ++ newline ∷ []) (e.is n ∙ text_last l at end (omega (arith, e.high)) n h (e.last h)))

  pub text_short : at < end → width (bytes_between l at end) ≤ length (printed (bytes_between l at to))
  text_short h =
      omega (arith, printed_length (bytes_between l at end), trimmed_short (printed (bytes_between l at to)), ap length (e.is 0 ∙ text_last l at end (omega (arith, e.high)) 0 h (e.last h)))

-- a full line is at most as wide as its room or its cells
adjusted_wide : (t : Bool) (i r : ℕ) (cs : List ℕ) (n g : ℕ) → n ≤ length cs → (m : ℕ) → n ≤ m → r ≤ m → length (adjusted t (collected_line i r cs n g)) ≤ m
adjusted_wide false i r cs n g h m a b = omega (arith, level_length (take n cs), length-take-le n cs h)
adjusted_wide true i r cs n g h m a b = go (gaps (take n cs)) refl
  where
    go : (k : ℕ) → gaps (take n cs) ≡ k → length (adjusted true (collected_line i r cs n g)) ≤ m
    go zero e = omega (arith, ap length (adjusted_alone true (collected_line i r cs n g) e), length-take-le n cs h)
    go (suc k) e = omega (arith, share_length (r - length (take n cs)) k (take n cs) e, length-take-le n cs h)

pub adjusted_short : (t : Bool) (r : ℕ) (cs : List ℕ) (n : ℕ) → n ≤ length cs → n ≤ 512 → r ≤ 512 → length (adjusted t (collected_line 0 r cs n 1)) ≤ 512
adjusted_short t r cs n h a b = adjusted_wide t 0 r cs n 1 h 512 a b

-- neither the indent nor the gap to the next line matters
pub adjusted_same : (t : Bool) (i j r : ℕ) (cs : List ℕ) (n g h : ℕ) → adjusted t (collected_line i r cs n g) ≡ adjusted t (collected_line j r cs n h)
adjusted_same true i j r cs n g h = refl
adjusted_same false i j r cs n g h = refl

pub left_few : (t : Bool) (s : ℕ) → left (one_if t) s ≤ s
left_few true s = div-le_self s 2
left_few false s = omega arith

-- a line to be centred is counted, or not
pub left_count : (n s : ℕ) → left (one_if (ltb 0 n)) s ≡ left n s
left_count zero s = refl
left_count (suc n) s = rw (lt-ltb 0 (suc n) (omega arith))

-- a line as it stands, without its trailing spaces
module _ (l : List ℕ) (at to end : ℕ) (f : bytes_between l at end ≡ trimmed (bytes_between l at to)) where
  spelled_is : bytes_between l at end ≡ spelled (words (bytes_between l at to))
  spelled_is = f ∙ sym (spelled_words (bytes_between l at to))

  pub standing_bytes : printed (bytes_between l at end) ≡ printed (spelled (words (bytes_between l at to)))
  standing_bytes = ap printed spelled_is

  pub standing_width : width (bytes_between l at end) ≡ span (words (bytes_between l at to))
  standing_width = ap width spelled_is ∙ spelled_width (words (bytes_between l at to))

-- a row that is written whole, and one of a newline alone
pub row_done : (r r1 r2 b bytes : List ℕ) (n m : ℕ) → r1 ≡ sets r 0 (replicate n 32) → Written r1 n b r2 m → replicate n space ++ b ++ newline ∷ [] ≡ bytes
    → Written r 0 bytes (set r2 m 10) (m + 1)
row_done r r1 r2 b bytes n m e w f = record {
  is = (λ i. set (w.is i) (w.end i) 10) ∙ ap (λ (x : List ℕ). set (sets x n b) (n + length b) 10) e ∙ row_set r b n ∙ ap (sets r 0) f;
  end = omega (arith, w.end, row_count r b n, ap length f);
  long = length-set r2 m 10 ∙ w.long ∙ ap length e ∙ length-sets r 0 (replicate n space);
}

pub row_alone : (r bytes : List ℕ) → newline ∷ [] ≡ bytes → Written r 0 bytes (set r 0 10) 1
row_alone r bytes f = record { is = ap (sets r 0) f; end = omega (arith, ap length f); long = length-set r 0 10 }

-- the same bytes, said otherwise
pub written_as : {e : List ℕ} {at : ℕ} {b b2 x : List ℕ} {r : ℕ} → b ≡ b2 → Written e at b x r → Written e at b2 x r
written_as {e} {at} f w = record { is = w.is ∙ ap (sets e at) f; end = w.end ∙ ap (λ (l : List ℕ). at + length l) f; long = w.long }
