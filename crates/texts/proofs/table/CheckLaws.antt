-- How the checks of lent columns go on at a row. Assumes nothing.
use mathlib.Core.Path.{◌≡◌, sym, ap, ◌∙◌}
use mathlib.Core.Bool.{◌&&◌}
use mathlib.Core.List.{List, [], ◌∷◌}
use Prim.Native.Nat.{ℕ, zero, suc, ◌*◌, ◌+◌, ◌-◌, ◌≤◌, ◌<◌}
use native.Mathlib.Numerals.{add-one}
use native.Mathlib.Omega.{arith}
use lib.ListN.{length, take, drop, get_or, drop_of_length-le}
use lib.Seq.{drop-cons}
use borrow.Author.Tests.{le-leb}
use Rattle.std.specs.List.{list_all, range_with_len}
use Rattle.rules.specs.Names.{two_bytes}
use Rattle.texts.specs.Table.Table.{names_of, total_length, Names}
use Rattle.texts.specs.Table.Checks.{NameColumns, lacks_name, all_distinct, no_name_twice}
use Rattle.texts.proofs.table.Laws.{names_of_length, names_of_at}

-- the sum of lengths: so many are far below the greatest number
pub total_low : (l : List ℕ) → ((i : ℕ) → get_or l i 0 < 65536) → (k : ℕ) → total_length (take k l) ≤ 65536 * k
unfolding total_length
total_low l f zero = omega arith
total_low [] f (suc k) = omega arith
total_low (x ∷ l) f (suc k) = omega (arith, f 0, total_low l (λ i. f (suc i)) k)

-- names

-- at most 64 rows
module _ (fs ss : List ℕ) (n : ℕ) (h : NameColumns fs ss) (k : n ≤ 64) where
  pub names_lie : Names fs ss n
  names_lie = record { firsts_long = h.firsts_long; seconds_long = h.seconds_long; few = k }

  pub twice_few : no_name_twice fs ss n ≡ all_distinct (drop 0 (names_of fs ss n))
  twice_few = rw (le-leb n 64 k)

  -- the rows of which d are left, each by whether those behind it lack its name
  pub distinct_rows : (i d : ℕ) → d ≡ n - i → list_all (λ j. lacks_name (two_bytes (get_or fs j 0) (get_or ss j 0)) (drop (j + 1) (names_of fs ss n))) (range_with_len i d) ≡ all_distinct (drop i (names_of fs ss n))
  unfolding all_distinct
  distinct_rows i zero e =
      let past : length (names_of fs ss n) ≤ i = omega (arith, names_of_length fs ss n names_lie) in
      rw (drop_of_length-le (names_of fs ss n) past)
  distinct_rows i (suc d) e =
      let l = names_of fs ss n in
      let c : drop i l ≡ get_or l i (two_bytes 0 0) ∷ drop (suc i) l = drop-cons l i (two_bytes 0 0) (omega (arith, names_of_length fs ss n names_lie)) in
      ap (λ b. lacks_name (two_bytes (get_or fs i 0) (get_or ss i 0)) (drop (i + 1) l) && b) (distinct_rows (i + 1) d (omega arith))
      ∙ ap (λ w. lacks_name w (drop (i + 1) l) && all_distinct (drop (i + 1) l)) (sym (names_of_at fs ss n names_lie i (omega arith)))
      ∙ ap (λ j. lacks_name (get_or l i (two_bytes 0 0)) (drop j l) && all_distinct (drop j l)) (add-one i)
      ∙ sym (ap all_distinct c)
