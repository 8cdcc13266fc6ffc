-- Laws of the readers of words. Assumes nothing.
use mathlib.Core.Path.{◌≡◌, refl, sym, ap, ◌∙◌, subst}
use mathlib.Core.Bool.{Bool, true, false, cond, not}
use Rattle.std.specs.List.{prefix_len, filter}
use mathlib.Core.List.{List, [], ◌∷◌, ◌++◌, append-nil}
use Prim.Native.Nat.{ℕ, suc, ◌+◌, ◌-◌, ◌≤◌, ◌<◌}
use native.Mathlib.Omega.{arith}
use lib.Dec.{eqb, ltb, leb}
use lib.ListN.{length, get_or, take, drop, replicate, take-append-drop, length-drop, drop_of_length-le}
use borrow.Author.Tests.{eq-eqb, ne_eqb, eqb-true, eqb-false, ltb-true, ltb-false, le-leb, lt-leb}
use Rattle.rules.specs.Bytes.{space, mark}
use Rattle.rules.specs.Filling.{word, words, width, count_if, leads}
use Rattle.rules.specs.Laws.Lines.{Without, BeginsWith, words_gap, words_blank}
use Rattle.fill.specs.Words.Parts.{bytes_between}
use Rattle.fill.specs.Words.Words.{suc_if, suc_unless, spaces, run_length, is_none}
use Rattle.fill.proofs.words.Parts.{part_none, part_cons, part_length, part_drop, part_take}

-- the readers' counts, as the code counts them
pub spaces_is : (l : List ℕ) → prefix_len (λ b. eqb b 32) l ≡ spaces l
unfolding spaces
spaces_is [] = refl
spaces_is (b ∷ l) = go (eqb b space) (spaces_is l)
  where
    go : (t : Bool) → prefix_len (λ x. eqb x 32) l ≡ spaces l → cond t (1 + prefix_len (λ x. eqb x 32) l) 0 ≡ suc_if t (spaces l)
    go true h = omega arith
    go false h = refl

pub run_is : (l : List ℕ) → prefix_len (λ b. not (eqb b 32)) l ≡ run_length l
unfolding run_length
run_is [] = refl
run_is (b ∷ l) = go (eqb b space) (run_is l)
  where
    go : (t : Bool) → prefix_len (λ x. not (eqb x 32)) l ≡ run_length l → cond (not t) (1 + prefix_len (λ x. not (eqb x 32)) l) 0 ≡ suc_unless t (run_length l)
    go true h = refl
    go false h = omega arith

pub width_is : (l : List ℕ) → length (filter (λ b. not (eqb b 2)) l) ≡ width l
unfolding width
width_is [] = refl
width_is (b ∷ l) = go (eqb b mark) (width_is l)
  where
    go : (t : Bool) → length (filter (λ x. not (eqb x 2)) l) ≡ width l → length (cond (not t) (b ∷ filter (λ x. not (eqb x 2)) l) (filter (λ x. not (eqb x 2)) l)) ≡ count_if t (width l)
    go true h = h
    go false h = omega arith

-- one byte more of the run of a word, and of its width; a space; the end
module _ (l : List ℕ) (i to : ℕ) (k : to ≤ length l) where
  pub run_more : i < to → (get_or l i 0 ≡ 32 → ⊥) → i + run_length (bytes_between l i to) ≡ i + 1 + run_length (bytes_between l (i + 1) to)
  unfolding run_length
  run_more h e = rw (part_cons l i to h k, ne_eqb (get_or l i 0) 32 e) (omega arith)

  pub run_stop : i < to → get_or l i 0 ≡ 32 → i ≡ i + run_length (bytes_between l i to)
  unfolding run_length
  run_stop h e = rw (part_cons l i to h k, eq-eqb (get_or l i 0) 32 e) (omega arith)

  pub run_end : to ≤ i → i ≡ i + run_length (bytes_between l i to)
  unfolding run_length
  run_end h = rw (part_none l i to h) (omega arith)

-- a cell more, or none
pub count_if_lem : (t : Bool) (n : ℕ) → count_if t n ≡ count_if t 0 + n
count_if_lem true n = omega arith
count_if_lem false n = omega arith

-- the width of the word at the front
abbrev pub run_width : List ℕ → ℕ
run_width l = width (take (run_length l) l)

module _ (l : List ℕ) (i to w : ℕ) (k : to ≤ length l) where
  pub width_more : i < to → (get_or l i 0 ≡ 32 → ⊥) → w + run_width (bytes_between l i to) ≡ w + count_if (eqb (get_or l i 0) mark) 0 + run_width (bytes_between l (i + 1) to)
  unfolding run_length width
  width_more h e =
      rw (part_cons l i to h k, ne_eqb (get_or l i 0) 32 e)
      (omega (arith, count_if_lem (eqb (get_or l i 0) mark) (width (take (run_length (bytes_between l (i + 1) to)) (bytes_between l (i + 1) to)))))

  pub width_stop : i < to → get_or l i 0 ≡ 32 → w ≡ w + run_width (bytes_between l i to)
  unfolding run_length width
  width_stop h e = rw (part_cons l i to h k, eq-eqb (get_or l i 0) 32 e) (omega arith)

  pub width_end : to ≤ i → w ≡ w + run_width (bytes_between l i to)
  unfolding run_length width
  width_end h = rw (part_none l i to h) (omega arith)

-- bounds
pub spaces_few : (l : List ℕ) → spaces l ≤ length l
unfolding spaces
spaces_few [] = omega arith
spaces_few (b ∷ l) = go (eqb b space) (spaces l) (spaces_few l)
  where
    go : (t : Bool) (n : ℕ) → n ≤ length l → suc_if t n ≤ suc (length l)
    go true n h = omega arith
    go false n h = omega arith

pub run_few : (l : List ℕ) → run_length l ≤ length l
unfolding run_length
run_few [] = omega arith
run_few (b ∷ l) = go (eqb b space) (run_length l) (run_few l)
  where
    go : (t : Bool) (n : ℕ) → n ≤ length l → suc_unless t n ≤ suc (length l)
    go true n h = omega arith
    go false n h = omega arith

-- a line is its leading spaces and the rest
pub spaces_front : (l : List ℕ) → l ≡ replicate (spaces l) space ++ drop (spaces l) l
unfolding spaces
spaces_front [] = refl
spaces_front (b ∷ l) = go (eqb b space) refl (spaces_front l)
  where
    go : (t : Bool) → eqb b space ≡ t → l ≡ replicate (spaces l) space ++ drop (spaces l) l → b ∷ l ≡ replicate (suc_if t (spaces l)) space ++ drop (suc_if t (spaces l)) (b ∷ l)
    go true e h = λ i. eqb-true b space e i ∷ h i
    go false e h = refl

-- behind the leading spaces no space stands
abbrev pub Starts : List ℕ → Type 0
Starts [] = Unit
Starts (b ∷ l) = eqb b space ≡ false

pub spaces_then : (l : List ℕ) → Starts (drop (spaces l) l)
unfolding spaces
spaces_then [] = tt
spaces_then (b ∷ l) = go (eqb b space) refl (spaces_then l)
  where
    go : (t : Bool) → eqb b space ≡ t → Starts (drop (spaces l) l) → Starts (drop (suc_if t (spaces l)) (b ∷ l))
    go true e h = h
    go false e h = e

run_without : (l : List ℕ) → Without space (take (run_length l) l)
unfolding run_length
run_without [] = tt
run_without (b ∷ l) = go (eqb b space) refl (run_without l)
  where
    go : (t : Bool) → eqb b space ≡ t → Without space (take (run_length l) l) → Without space (take (suc_unless t (run_length l)) (b ∷ l))
    go true e h = tt
    go false e h = (e, h)

run_then : (l : List ℕ) → BeginsWith space (drop (run_length l) l)
unfolding run_length
run_then [] = tt
run_then (b ∷ l) = go (eqb b space) refl (run_then l)
  where
    go : (t : Bool) → eqb b space ≡ t → BeginsWith space (drop (run_length l) l) → BeginsWith space (drop (suc_unless t (run_length l)) (b ∷ l))
    go true e h = e
    go false e h = h

-- a word behind spaces
pub gap_word : (g : ℕ) (m : List ℕ) → Starts m → 0 < length m → words (replicate g space ++ m) ≡ word g (take (run_length m) m) ∷ words (drop (run_length m) m)
unfolding run_length
gap_word g [] s h = absurd (omega arith)
gap_word g (b ∷ r) s h =
    ap (λ (x : List ℕ). words (replicate g space ++ (b ∷ x))) (sym (take-append-drop (run_length r) r))
    ∙ rw s (words_gap g b (take (run_length r) r) (drop (run_length r) r) (s, run_without r) (run_then r))

pub run_some : (m : List ℕ) → Starts m → 0 < length m → 0 < run_length m
unfolding run_length
run_some [] s h = absurd (omega arith)
run_some (b ∷ r) s h = rw s (omega arith)

-- the first word of a line, and the others
words_first : (l : List ℕ) → spaces l < length l
    → words l ≡ word (spaces l) (take (run_length (drop (spaces l) l)) (drop (spaces l) l)) ∷ words (drop (run_length (drop (spaces l) l)) (drop (spaces l) l))
words_first l h = ap words (spaces_front l) ∙ gap_word (spaces l) (drop (spaces l) l) (spaces_then l) (omega (arith, length-drop (spaces l) l))

words_none : (l : List ℕ) → spaces l ≡ length l → words l ≡ []
words_none l h =
    let z : drop (spaces l) l ≡ [] = drop_of_length-le l {i = spaces l} (omega arith) in
    ap words (spaces_front l) ∙ ap (λ (x : List ℕ). words (replicate (spaces l) space ++ x)) z ∙ ap words (append-nil (replicate (spaces l) space)) ∙ words_blank (spaces l)

-- what stands behind the leading spaces of a part
module _ (l : List ℕ) (at to from : ℕ) (f : from ≡ at + spaces (bytes_between l at to)) where
  pub rest_is : drop (spaces (bytes_between l at to)) (bytes_between l at to) ≡ bytes_between l from to
  rest_is = part_drop l at to (spaces (bytes_between l at to)) ∙ ap (λ (i : ℕ). bytes_between l i to) (sym f)

  pub rest_starts : Starts (bytes_between l from to)
  rest_starts = subst Starts rest_is (spaces_then (bytes_between l at to))

module _ (l : List ℕ) (at to from : ℕ) (k : to ≤ length l) (o : at ≤ to) (f : from ≡ at + spaces (bytes_between l at to)) where
  pub first_none : from ≡ to → words (bytes_between l at to) ≡ []
  first_none e = words_none (bytes_between l at to) (omega (arith, part_length l at to k))

  module _ (e : ℕ) (g : e ≡ from + run_length (bytes_between l from to)) (h : from < to) where
    pub first_some : from < e
    first_some = omega (arith, run_some (bytes_between l from to) (rest_starts l at to from f) (omega (arith, part_length l from to k)))

    pub first_high : e ≤ to
    first_high = omega (arith, run_few (bytes_between l from to), part_length l from to k)

    pub first_bytes : take (run_length (bytes_between l from to)) (bytes_between l from to) ≡ bytes_between l from e
    first_bytes =
        part_take l from to (run_length (bytes_between l from to)) (omega (arith, first_high)) ∙ ap (λ (i : ℕ). bytes_between l from i) (sym g)

    pub first_found : word (from - at) (bytes_between l from e) ∷ words (bytes_between l e to) ≡ words (bytes_between l at to)
    first_found =
        let z : spaces (bytes_between l at to) ≡ from - at = omega arith in
        let d : drop (run_length (bytes_between l from to)) (bytes_between l from to) ≡ bytes_between l e to = part_drop l from to (run_length (bytes_between l from to)) ∙ ap (λ (i : ℕ). bytes_between l i to) (sym g) in
        sym (words_first (bytes_between l at to) (omega (arith, part_length l at to k))
        ∙ rw (rest_is l at to from f, first_bytes, d, z))

-- whether there is a word, and whether spaces lead
leads_first : (l : List ℕ) → spaces l < length l → leads (words l) ≡ leb 1 (spaces l)
leads_first l h = ap leads (words_first l h)

none_first : (l : List ℕ) → spaces l < length l → is_none (words l) ≡ false
none_first l h = ap is_none (words_first l h)

module _ (l : List ℕ) (at to from : ℕ) (k : to ≤ length l) (o : at ≤ to) (f : from ≡ at + spaces (bytes_between l at to)) where
  leads_some : from < to → ltb at from ≡ leads (words (bytes_between l at to))
  leads_some h = sym (leads_first (bytes_between l at to) (omega (arith, part_length l at to k)) ∙ go (ltb at from) refl)
    where
      go : (t : Bool) → ltb at from ≡ t → leb 1 (spaces (bytes_between l at to)) ≡ t
      go true e = le-leb 1 (spaces (bytes_between l at to)) (omega (arith, ltb-true at from e))
      go false e = lt-leb 1 (spaces (bytes_between l at to)) (omega (arith, ltb-false at from e))

  pub leads_is : from ≤ to → cond (ltb at from) (ltb from to) false ≡ leads (words (bytes_between l at to))
  leads_is h = go (ltb from to) refl
    where
      both : (t : Bool) → cond t true false ≡ t
      both true = refl
      both false = refl

      none : (t : Bool) → cond t false false ≡ false
      none true = refl
      none false = refl

      go : (t : Bool) → ltb from to ≡ t → cond (ltb at from) t false ≡ leads (words (bytes_between l at to))
      go true e = both (ltb at from) ∙ leads_some (ltb-true from to e)
      go false e = none (ltb at from) ∙ sym (ap leads (first_none l at to from k o f (omega (arith, ltb-false from to e))))

  pub none_is : from ≤ to → eqb from to ≡ is_none (words (bytes_between l at to))
  none_is h = go (eqb from to) refl
    where
      go : (t : Bool) → eqb from to ≡ t → t ≡ is_none (words (bytes_between l at to))
      go true e = sym (ap is_none (first_none l at to from k o f (eqb-true from to e)))
      go false e = sym (none_first (bytes_between l at to) (omega (arith, part_length l at to k, eqb-false from to e)))
