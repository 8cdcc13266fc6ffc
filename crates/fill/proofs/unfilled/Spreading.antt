-- Collected lines as they are spread over a row. Assumes nothing.
use mathlib.Core.Path.{◌≡◌, refl, sym, ap, ◌∙◌}
use mathlib.Core.Bool.{Bool, true, false, cond, ◌||◌}
use Rattle.std.specs.List.{filter}
use mathlib.Core.List.{List, [], ◌∷◌, ◌++◌, append_assoc, append-nil}
use Prim.Native.Nat.{ℕ, zero, suc, ◌+◌, ◌-◌, ◌/◌, ◌%◌, ◌≤◌, ◌<◌}
use native.Mathlib.Numerals.{add-one}
use native.Mathlib.Omega.{arith}
use lib.Dec.{eqb}
use lib.ListN.{length, get_or, take, drop, replicate, length-append, length-replicate, drop_of_length-le}
use lib.Seq.{sets, length-take-le, drop-cons}
use borrow.Author.Tests.{eqb-true}
use Rattle.rules.specs.Bytes.{space, gap_start}
use Rattle.rules.specs.Filling.{gaps, count_gap, spread, spread_cell, few_after, more_if, share, adjusted, trimmed}
use Rattle.rules.proofs.Laws.Filling.{spread_none, trimmed_spaces, trimmed_ends}
use Rattle.fill.specs.Words.Parts.{bytes_between}
use Rattle.fill.specs.Collected.Writing.{Written}
use Rattle.fill.specs.Collected.Filled.{collected_line}
use Rattle.fill.specs.Unfilled.Lines.{is_blank_cell}
use Rattle.fill.proofs.words.Parts.{part_snoc, part_zero}
use Rattle.fill.proofs.collected.Writing.{sets_append}

-- the gaps, as the code counts them
pub gaps_is : (l : List ℕ) → length (filter (λ b. eqb b 4) l) ≡ gaps l
unfolding gaps
gaps_is [] = refl
gaps_is (b ∷ l) = go (eqb b gap_start) (gaps_is l)
  where
    go : (t : Bool) → length (filter (λ x. eqb x 4) l) ≡ gaps l → length (cond t (b ∷ filter (λ x. eqb x 4) l) (filter (λ x. eqb x 4) l)) ≡ count_gap t (gaps l)
    go true h = omega arith
    go false h = h

-- the ways of sharing
share_by : (e k : ℕ) (bs : List ℕ) → 0 < k → spread (e / k) (k - e % k) bs ≡ share e k bs
share_by e zero bs h = absurd (omega arith)
share_by e (suc k) bs h = refl

module _ (cells : List ℕ) (count room : ℕ) (h : count ≤ length cells) where
  all : length (take count cells) ≡ count
  all = length-take-le count cells h

  pub share_none : gaps (bytes_between cells 0 count) ≡ 0 → spread 0 0 (bytes_between cells 0 count) ≡ adjusted true (collected_line 0 room cells count 1)
  share_none e =
      let z = part_zero cells count in
      let g : gaps (take count cells) ≡ 0 = ap gaps (sym z) ∙ e in
      spread_none 0 0 (bytes_between cells 0 count) e ∙ z ∙ sym (ap (λ (k : ℕ). share (room - length (take count cells)) k (take count cells)) g)

  pub share_some : (k e : ℕ) → k ≡ gaps (bytes_between cells 0 count) → e ≡ room - count → 0 < k → spread (e / k) (k - e % k) (bytes_between cells 0 count) ≡ adjusted true (collected_line 0 room cells count 1)
  share_some k e f g p =
      let z = part_zero cells count in
      let a : k ≡ gaps (take count cells) = f ∙ ap gaps z in
      let b : e ≡ room - length (take count cells) = g ∙ ap (λ (n : ℕ). room - n) (sym all) in
      share_by e k (bytes_between cells 0 count) p ∙ (λ i. share (b i) (a i) (z i))

  pub share_off : spread 0 count (bytes_between cells 0 count) ≡ adjusted false (collected_line 0 room cells count 1)
  share_off = λ i. spread 0 (sym all i) (part_zero cells count i)

-- spread in two parts
cell_append : (t : Bool) (m b : ℕ) (p q : List ℕ) → spread_cell t m b (p ++ q) ≡ spread_cell t m b p ++ q
cell_append true m b p q = sym (append_assoc (replicate (suc m) space) p q)
cell_append false m b p q = refl

few_less : (t : Bool) (few n : ℕ) → few_after t few - n ≡ few - count_gap t n
few_less true zero n = omega arith
few_less true (suc f) n = omega arith
few_less false few n = refl

pub spread_append : (each few : ℕ) (a b : List ℕ) → spread each few (a ++ b) ≡ spread each few a ++ spread each (few - gaps a) b
unfolding spread gaps
spread_append each few [] b = let z : few - 0 ≡ few = omega arith in rw z
spread_append each few (x ∷ a) b =
    let t = eqb x gap_start in
    ap (spread_cell t (each + more_if few) x) (spread_append each (few_after t few) a b)
    ∙ cell_append t (each + more_if few) x (spread each (few_after t few) a) (spread each (few_after t few - gaps a) b)
    ∙ ap (λ (n : ℕ). spread_cell t (each + more_if few) x (spread each (few_after t few) a) ++ spread each n b) (few_less t few (gaps a))

-- blanks at the end
blank_trim : (l : List ℕ) (each few b : ℕ) → is_blank_cell b ≡ true → trimmed (l ++ spread each few (b ∷ [])) ≡ trimmed l
unfolding spread
blank_trim l each few b h = go (eqb b gap_start) refl (eqb b space) refl h
  where
    go : (t : Bool) → eqb b gap_start ≡ t → (u : Bool) → eqb b space ≡ u → u || t ≡ true → trimmed (l ++ spread_cell t (each + more_if few) b []) ≡ trimmed l
    go true e u f h = ap (λ (x : List ℕ). trimmed (l ++ x)) (append-nil (replicate (suc (each + more_if few)) space)) ∙ trimmed_spaces l (suc (each + more_if few))
    go false e true f h = ap (λ (x : ℕ). trimmed (l ++ x ∷ [])) (eqb-true b space f) ∙ trimmed_spaces l 1
    go false e false f h = absurd (let z : ◌≡◌ {A = ℕ} 0 1 = cc in omega arith)

solid_spread : (each few b : ℕ) → is_blank_cell b ≡ false → spread each few (b ∷ []) ≡ b ∷ []
unfolding spread
solid_spread each few b h = go (eqb b gap_start) refl (eqb b space) h
  where
    go : (t : Bool) → eqb b gap_start ≡ t → (u : Bool) → u || t ≡ false → spread_cell t (each + more_if few) b [] ≡ b ∷ []
    go true e true h = absurd (let z : ◌≡◌ {A = ℕ} 0 1 = cc in omega arith)
    go true e false h = absurd (let z : ◌≡◌ {A = ℕ} 0 1 = cc in omega arith)
    go false e u h = refl

no_space : (b : ℕ) → is_blank_cell b ≡ false → eqb b space ≡ false
no_space b h = go (eqb b space) refl (eqb b gap_start) h
  where
    go : (u : Bool) → eqb b space ≡ u → (t : Bool) → u || t ≡ false → u ≡ false
    go true e t h = h
    go false e t h = refl

module _ (l : List ℕ) (i : ℕ) (k : i ≤ length l) (n each few : ℕ) (h : 0 < i) where
  row_snoc : replicate n space ++ spread each few (bytes_between l 0 i)
      ≡ (replicate n space ++ spread each few (bytes_between l 0 (i - 1))) ++ spread each (few - gaps (bytes_between l 0 (i - 1))) (get_or l (i - 1) 0 ∷ [])
  row_snoc =
      ap (λ (x : List ℕ). replicate n space ++ spread each few x) (part_snoc l 0 i h k)
      ∙ ap (λ (x : List ℕ). replicate n space ++ x) (spread_append each few (bytes_between l 0 (i - 1)) (get_or l (i - 1) 0 ∷ []))
      ∙ sym (append_assoc (replicate n space) (spread each few (bytes_between l 0 (i - 1))) (spread each (few - gaps (bytes_between l 0 (i - 1))) (get_or l (i - 1) 0 ∷ [])))

  -- a blank at the end leaves the row as it is
  pub end_more : is_blank_cell (get_or l (i - 1) 0) ≡ true
      → trimmed (replicate n space ++ spread each few (bytes_between l 0 i)) ≡ trimmed (replicate n space ++ spread each few (bytes_between l 0 (i - 1)))
  end_more e =
      ap trimmed row_snoc
      ∙ blank_trim (replicate n space ++ spread each few (bytes_between l 0 (i - 1))) each (few - gaps (bytes_between l 0 (i - 1))) (get_or l (i - 1) 0) e

  -- up to another cell the row is written whole
  pub end_last : is_blank_cell (get_or l (i - 1) 0) ≡ false
      → trimmed (replicate n space ++ spread each few (bytes_between l 0 i)) ≡ replicate n space ++ spread each few (bytes_between l 0 i)
  end_last e =
      let r = row_snoc ∙ ap (λ (x : List ℕ). (replicate n space ++ spread each few (bytes_between l 0 (i - 1))) ++ x) (solid_spread each (few - gaps (bytes_between l 0 (i - 1))) (get_or l (i - 1) 0) e) in
      ap trimmed r ∙ trimmed_ends (replicate n space ++ spread each few (bytes_between l 0 (i - 1))) (get_or l (i - 1) 0) (no_space (get_or l (i - 1) 0) e) ∙ sym r

-- a cell and those behind it
cell_first : (t : Bool) (m b : ℕ) (l : List ℕ) → spread_cell t m b l ≡ spread_cell t m b [] ++ l
cell_first t m b l = cell_append t m b [] l

-- the first cell of a gap takes its blanks
pub gap_length : (m b : ℕ) → length (spread_cell true m b []) ≡ suc m
gap_length m b = ap length (append-nil (replicate (suc m) space)) ∙ length-replicate (suc m) space

pub gap_row : (row : List ℕ) (at m b : ℕ) → sets row at (replicate (m + 1) 32) ≡ sets row at (spread_cell true m b [])
gap_row row at m b = rw (add-one m) (sym (ap (sets row at) (append-nil (replicate (suc m) space))))

-- the cells of a place before those behind it
abbrev pub cell_at : List ℕ → (i each few : ℕ) → List ℕ
cell_at l i each few = spread_cell (eqb (get_or l i 0) gap_start) (each + more_if few) (get_or l i 0) []

spread_first : (l : List ℕ) (i each few : ℕ) → i < length l → spread each few (drop i l) ≡ cell_at l i each few ++ spread each (few_after (eqb (get_or l i 0) gap_start) few) (drop (i + 1) l)
unfolding spread
spread_first l i each few h =
    rw (drop-cons l i 0 h, add-one i)
    (cell_first (eqb (get_or l i 0) gap_start) (each + more_if few) (get_or l i 0) (spread each (few_after (eqb (get_or l i 0) gap_start) few) (drop (suc i) l)))

-- what is still to be spread from a place on
pub record Spreading (cells : List ℕ) (each few : ℕ) (entry : List ℕ) (at : ℕ) (row : List ℕ) (i n left : ℕ) : Type 0 where
  pub long : length row ≡ length entry
  pub is : sets entry at (spread each few cells) ≡ sets row n (spread each left (drop i cells))
  pub end : at + length (spread each few cells) ≡ n + length (spread each left (drop i cells))

module _ (cells : List ℕ) (each few : ℕ) (entry : List ℕ) (at : ℕ) (row : List ℕ) (i n left : ℕ) (q : Spreading cells each few entry at row i n left) where
  module _ (h : i < length cells) where
    first_is : spread each left (drop i cells) ≡ cell_at cells i each left ++ spread each (few_after (eqb (get_or cells i 0) gap_start) left) (drop (i + 1) cells)
    first_is = spread_first cells i each left h

    first_length : length (spread each left (drop i cells)) ≡ length (cell_at cells i each left) + length (spread each (few_after (eqb (get_or cells i 0) gap_start) left) (drop (i + 1) cells))
    first_length = ap length first_is ∙ length-append (cell_at cells i each left) (spread each (few_after (eqb (get_or cells i 0) gap_start) left) (drop (i + 1) cells))

    -- there is a place for the next cell
    pub spreading_room : at + length (spread each few cells) ≤ 872 → n + length (cell_at cells i each left) ≤ 872
    spreading_room r = omega (arith, first_length, q.end)

    pub spreading_next : (row2 : List ℕ) (n2 left2 : ℕ) → Written row n (cell_at cells i each left) row2 n2 → left2 ≡ few_after (eqb (get_or cells i 0) gap_start) left
        → Spreading cells each few entry at row2 (i + 1) n2 left2
    spreading_next row2 n2 left2 w e = record {
      long = w.long ∙ q.long;
      is = q.is ∙ ap (sets row n) first_is
          ∙ sets_append (cell_at cells i each left) (spread each (few_after (eqb (get_or cells i 0) gap_start) left) (drop (i + 1) cells)) row n
          ∙ (λ x. sets (sym w.is x) (sym w.end x) (spread each (sym e x) (drop (i + 1) cells)));
      end = rw e (omega (arith, first_length, q.end, w.end));
    }

  pub spreading_done : length cells ≤ i → Written entry at (spread each few cells) row n
  unfolding spread
  spreading_done h =
      let z : spread each left (drop i cells) ≡ [] = ap (spread each left) (drop_of_length-le cells {i = i} h) in
      record { is = sym (q.is ∙ ap (sets row n) z); end = omega (arith, q.end, ap length z); long = q.long }

-- the gaps that have no cell more
pub more_none : (few : ℕ) → (few ≡ 0 → ⊥) → 0 ≡ more_if few
more_none zero h = absurd (h refl)
more_none (suc n) h = refl

pub few_gap : (few : ℕ) → few - 1 ≡ few_after true few
few_gap zero = omega arith
few_gap (suc n) = omega arith
