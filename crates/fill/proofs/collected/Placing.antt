-- Words that join a collected line one by one. Assumes nothing.
use mathlib.Core.Path.{◌≡◌, refl, sym, ap, ◌∙◌}
use mathlib.Core.Bool.{true}
use Rattle.std.specs.Prelude.{Result, Ok, Err}
use mathlib.Core.List.{List, [], ◌∷◌, ◌++◌}
use Prim.Native.Nat.{ℕ, zero, suc, ◌+◌, ◌-◌, ◌≤◌, ◌<◌}
use native.Mathlib.Omega.{arith}
use lib.ListN.{length, take, drop, replicate, length-append}
use lib.Seq.{sets, length-take-le, drop-drop}
use borrow.Author.Tests.{le-leb, lt-leb}
use Rattle.measure.specs.Counts.{across_of, cells_across}
use Rattle.rules.specs.Bytes.{space}
use Rattle.rules.specs.Filling.{Word, word, words, after, width, printed, gap_cells, join_byte}
use Rattle.rules.specs.Filling as rules
use Rattle.rules.proofs.Laws.Filling.{place_fits, place_stops, printed_length, gap_cells_length}
use Rattle.fill.specs.Words.Parts.{bytes_between, Places}
use Rattle.fill.specs.Words.Words.{spaces, run_length, WordEndIs}
use Rattle.fill.specs.Collected.Writing.{Written}
use Rattle.fill.specs.Collected.Filled.{collected_line, CollectedInvariant, GoodPlaced, PlacedTo}
use Rattle.fill.specs.declared.words.WordEnd.{WordEnd}
use Rattle.fill.specs.declared.collected.Overflow.{Overflow}
use Rattle.fill.proofs.words.Parts.{part_none, part_length, part_drop, part_take}
use Rattle.fill.proofs.words.Words.{Starts, rest_is, rest_starts, spaces_front, spaces_few, run_few, run_some, gap_word}
use Rattle.fill.proofs.collected.Writing.{sets_append, take_sets, drop_sets}

-- a given gap takes the place of spaces
after_space : (g : ℕ) (ws : List Word) → after g (join_byte true space ws) ≡ after g ws
after_space g [] = refl
after_space g (w ∷ ws) = refl

after_spaces_lem : (g k : ℕ) (m : List ℕ) → after g (words (replicate k space ++ m)) ≡ after g (words m)
unfolding words
after_spaces_lem g zero m = refl
after_spaces_lem g (suc k) m = after_space g (words (replicate k space ++ m)) ∙ after_spaces_lem g k m

-- spaces are a gap
words_after : (k : ℕ) (m : List ℕ) → Starts m → words (replicate k space ++ m) ≡ after k (words m)
unfolding words
words_after zero [] s = refl
words_after (suc k) [] s = rw (words_after k [] tt)
words_after k (b ∷ r) s = gap_word k (b ∷ r) s (omega arith) ∙ sym (ap (after k) (gap_word 0 (b ∷ r) s (omega arith)))

-- the same for a part of a line
module _ (l : List ℕ) (at to from : ℕ) (f : from ≡ at + spaces (bytes_between l at to)) where
  front_is : bytes_between l at to ≡ replicate (spaces (bytes_between l at to)) space ++ bytes_between l from to
  front_is = spaces_front (bytes_between l at to) ∙ ap (λ (x : List ℕ). replicate (spaces (bytes_between l at to)) space ++ x) (rest_is l at to from f)

  after_skip : (g : ℕ) → after g (words (bytes_between l at to)) ≡ after g (words (bytes_between l from to))
  after_skip g = ap (λ (x : List ℕ). after g (words x)) front_is ∙ after_spaces_lem g (spaces (bytes_between l at to)) (bytes_between l from to)

  pub words_skip : words (bytes_between l at to) ≡ after (from - at) (words (bytes_between l from to))
  words_skip =
      let z : spaces (bytes_between l at to) ≡ from - at = omega arith in
      ap words front_is ∙ words_after (spaces (bytes_between l at to)) (bytes_between l from to) (rest_starts l at to from f) ∙ ap (λ (k : ℕ). after k (words (bytes_between l from to))) z

-- what is collected so far, and where the next word stands
pub record Placing (line : List ℕ) (at to gap : ℕ) (entry : List ℕ) (count room : ℕ) (cells : List ℕ) (from before n : ℕ) : Type 0 where
  pub low : at ≤ from
  pub high : from ≤ to
  pub small : before ≤ 512
  pub starts : Starts (bytes_between line from to)
  pub kept : CollectedInvariant cells n room
  pub rest : drop n cells ≡ drop n entry
  pub is : (indent next : ℕ) → rules.place (collected_line indent room entry count next) (after gap (words (bytes_between line at to)))
      ≡ rules.place (collected_line indent room cells n next) (after before (words (bytes_between line from to)))

module _ (line : List ℕ) (at to gap : ℕ) (entry : List ℕ) (count room : ℕ) (p : Places line at to) where
  pub placing_start : (from : ℕ) → gap ≤ 512 → CollectedInvariant entry count room → from ≡ at + spaces (bytes_between line at to)
      → Placing line at to gap entry count room entry from gap count
  placing_start from g l f = record {
    low = omega arith;
    high = omega (arith, spaces_few (bytes_between line at to), part_length line at to (omega arith));
    small = g;
    starts = rest_starts line at to from f;
    kept = l;
    rest = refl;
    is = λ i k. ap (rules.place (collected_line i room entry count k)) (after_skip line at to from f gap);
  }

  module _ (cells : List ℕ) (from before n : ℕ) (q : Placing line at to gap entry count room cells from before n) where
    -- all words are placed
    pub placed_all : to ≤ from → PlacedTo line at to (after gap (words (bytes_between line at to))) entry count room (Ok n) cells
    unfolding words rules.place
    placed_all h = record {
      is = λ i k. sym (q.is i k ∙ ap (λ (x : List ℕ). rules.place (collected_line i room cells n k) (after before (words x))) (part_none line from to h));
      rest = q.rest;
      cells = q.kept;
      good = tt;
    }

    module _ (h : from < to) (w : WordEnd) (e : WordEndIs line from to w) where
      k : to ≤ length line
      k = omega arith

      long : length (bytes_between line from to) ≡ to - from
      long = part_length line from to k

      bytes_is : take (run_length (bytes_between line from to)) (bytes_between line from to) ≡ bytes_between line from w.to
      bytes_is = part_take line from to (run_length (bytes_between line from to)) (omega (arith, run_few (bytes_between line from to), long)) ∙ ap (λ (i : ℕ). bytes_between line from i) (sym e.place)

      words_is : words (bytes_between line from to) ≡ word 0 (bytes_between line from w.to) ∷ words (bytes_between line w.to to)
      words_is =
          let d : drop (run_length (bytes_between line from to)) (bytes_between line from to) ≡ bytes_between line w.to to = part_drop line from to (run_length (bytes_between line from to)) ∙ ap (λ (i : ℕ). bytes_between line i to) (sym e.place) in
          gap_word 0 (bytes_between line from to) q.starts (omega (arith, long)) ∙ rw (bytes_is, d)

      word_is : w.width ≡ cells_across (width (bytes_between line from w.to))
      word_is = e.width ∙ ap (λ (b : List ℕ). cells_across (width b)) bytes_is

      pub word_width : across_of w.width ≡ width (bytes_between line from w.to)
      word_width = ap across_of word_is

      pub word_some : from < w.to
      word_some = omega (arith, run_some (bytes_between line from to) q.starts (omega (arith, long)), e.place)

      next_is : (indent next : ℕ) → rules.place (collected_line indent room entry count next) (after gap (words (bytes_between line at to)))
          ≡ rules.place (collected_line indent room cells n next) (word before (bytes_between line from w.to) ∷ words (bytes_between line w.to to))
      next_is i j = q.is i j ∙ ap (λ (x : List Word). rules.place (collected_line i room cells n j) (after before x)) words_is

      count_is_lem : length (take n cells) ≡ n
      count_is_lem = length-take-le n cells (omega arith)

      -- the word does not fit
      pub placed_full : room < n + before + across_of w.width
          → PlacedTo line at to (after gap (words (bytes_between line at to))) entry count room (Err (record { length = n; gap = cells_across before; from = from; to = w.to; width = w.width })) cells
      placed_full f = record {
        is = λ i j. sym (next_is i j ∙ place_stops (collected_line i room cells n j) (word before (bytes_between line from w.to)) (words (bytes_between line w.to to))
            (lt-leb (length (take n cells) + before + width (bytes_between line from w.to)) room (omega (arith, count_is_lem, word_width))));
        rest = q.rest;
        cells = q.kept;
        good = (q.low, word_some, e.high, word_is, refl);
      }

      -- it fits
      pub placing_next : (cells1 cells2 : List ℕ) (n1 n2 from2 : ℕ) → n + before + across_of w.width ≤ room → Written cells n (gap_cells before) cells1 n1
          → Written cells1 n1 (printed (bytes_between line from w.to)) cells2 n2 → from2 ≡ w.to + spaces (bytes_between line w.to to) → from2 ≤ to
          → Placing line at to gap entry count room cells2 from2 (from2 - w.to) n2
      placing_next cells1 cells2 n1 n2 from2 f g v s t =
          let bs = gap_cells before ++ printed (bytes_between line from w.to) in
          let m : length bs ≡ before + across_of w.width = omega (arith, length-append (gap_cells before) (printed (bytes_between line from w.to)), gap_cells_length before, printed_length (bytes_between line from w.to), word_width) in
          let a : cells2 ≡ sets cells n bs = v.is ∙ rw (g.is, g.end) (sym (sets_append (gap_cells before) (printed (bytes_between line from w.to)) cells n)) in
          let o : n2 ≡ n + length bs = omega (arith, v.end, g.end, length-append (gap_cells before) (printed (bytes_between line from w.to))) in
          let r : n + length bs ≤ length cells = omega arith in
          let c : take n2 cells2 ≡ take n cells ++ bs = rw (a, o) (take_sets bs cells n r) in
          record {
            low = omega (arith, q.low, word_some);
            high = t;
            small = omega arith;
            starts = rest_starts line w.to to from2 s;
            kept = record { long = omega (arith, v.long, g.long); few = omega arith; narrow = q.kept.narrow };
            rest = rw (a, o) (drop_sets bs cells n r ∙ further cells entry n (length bs) q.rest);
            is = λ i j. next_is i j
                ∙ place_fits (collected_line i room cells n j) (word before (bytes_between line from w.to)) (words (bytes_between line w.to to))
                (le-leb (length (take n cells) + before + width (bytes_between line from w.to)) room (omega (arith, count_is_lem, word_width)))
                ∙ (λ x. rules.place (record { indent = i; room = room; cells = sym c x; next = j }) (words_skip line w.to to from2 s x));
          }
        where
          further : (x y : List ℕ) (a b : ℕ) → drop a x ≡ drop a y → drop (a + b) x ≡ drop (a + b) y
          further x y a b e = sym (drop-drop b a x) ∙ ap (drop b) e ∙ drop-drop b a y

-- the same words, read from further in front
good_before : (line : List ℕ) (at from to : ℕ) (r : Result ℕ Overflow) → at ≤ from → GoodPlaced line from to r → GoodPlaced line at to r
good_before line at from to (Ok n) h g = tt
good_before line at from to (Err o) h g = (omega (arith, g.0), g.1, g.2, g.3, g.4)

pub placed_others : (line : List ℕ) (at to from : ℕ) (entry : List ℕ) (count room : ℕ) (r : Result ℕ Overflow) (exit : List ℕ) → at ≤ from → from ≡ at + spaces (bytes_between line at to)
    → PlacedTo line from to (after (from - at) (words (bytes_between line from to))) entry count room r exit → PlacedTo line at to (words (bytes_between line at to)) entry count room r exit
placed_others line at to from entry count room r exit h f p = record {
  is = λ i k. p.is i k ∙ ap (rules.place (collected_line i room entry count k)) (sym (words_skip line at to from f));
  rest = p.rest;
  cells = p.cells;
  good = good_before line at from to r h p.good;
}
