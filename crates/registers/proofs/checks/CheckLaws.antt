-- How the checks of lent columns go on at a row. Assumes nothing.
use mathlib.Core.Path.{◌≡◌, refl, sym, ap, ◌∙◌}
use mathlib.Core.Bool.{Bool, true, false, ◌&&◌}
use mathlib.Core.List.{List, [], ◌∷◌}
use Prim.Native.Nat.{ℕ, suc, ◌+◌, ◌-◌, ◌≤◌, ◌<◌}
use native.Mathlib.Numerals.{add-one}
use native.Mathlib.Omega.{arith}
use lib.ListN.{length, take, drop, get_or, drop_of_length-le, length-drop}
use lib.Seq.{drop-cons, length-take-le, get_or-take}
use lib.IntN.{ℤ, pos}
use borrow.Author.Tests.{le-leb, lt-leb}
use Rattle.rules.specs.declared.Name.{Name}
use Rattle.rules.specs.Names as rules
use Rattle.rules.specs.Names.{two_bytes, earlier}
use Rattle.std.specs.Prelude.{◌==◌}
use Rattle.std.specs.Ordering.{ordering_index}
use Rattle.std.specs.declared.cmp.Ordering.{Ordering}
use Rattle.std.specs.declared.cmp.Ordering.TheVariants.{Less, Equal, Greater}
use Rattle.registers.specs.Table.Columns.{zip_with, as_pair, names_of, Names}
use Rattle.registers.specs.Table.Places.{order_of, order_at}
use Rattle.registers.specs.Checks.Checks.{NameColumns, NumberColumns, is_earlier, in_order, is_register_table, in_bounds, all_within, is_bounded}
use Rattle.rules.specs.Columns.{zip_at, zip_length}
use Rattle.registers.proofs.table.Laws.{names_of_at, names_of_length}

-- the order of names

-- a name stands before the next, and that before those behind it
in_order_next : (l : List Name) (i : ℕ) (d : Name) → suc i < length l
    → in_order (drop i l) ≡ (is_earlier (rules.order (get_or l i d) (get_or l (suc i) d)) && in_order (drop (suc i) l))
unfolding in_order
in_order_next l i d h =
    let two : drop i l ≡ get_or l i d ∷ get_or l (suc i) d ∷ drop (suc (suc i)) l =
    drop-cons l i d (omega arith) ∙ ap (λ t. get_or l i d ∷ t) (drop-cons l (suc i) d h) in
    ap in_order two ∙ ap (λ t. is_earlier (rules.order (get_or l i d) (get_or l (suc i) d)) && in_order t) (sym (drop-cons l (suc i) d h))

names_few : (l : List Name) → length l ≤ 1 → in_order l ≡ true
unfolding in_order
names_few [] h = refl
names_few (n ∷ []) h = refl
names_few (n ∷ m ∷ l) h = absurd (omega arith)

pub order_end : (l : List Name) (k : ℕ) → length l ≤ k → in_order (drop (k - 1) l) ≡ true
order_end l k h = names_few (drop (k - 1) l) (omega (arith, length-drop (k - 1) l))

-- whether the name in a row stands before that in the next, by the answer that a comparison gave
pub order_row : (fs ss : List ℕ) (n : ℕ) → Names fs ss n → (k : ℕ) → 1 ≤ k → k < n → (r : Ordering)
    → order_of r ≡ order_at fs ss k (two_bytes (get_or fs (k - 1) 0) (get_or ss (k - 1) 0))
    → in_order (drop (k - 1) (names_of fs ss n)) ≡ (is_earlier (order_of r) && in_order (drop k (names_of fs ss n)))
order_row fs ss n h k a b r e =
    let l = names_of fs ss n in
    let q : suc (k - 1) ≡ k = omega arith in
    in_order_next l (k - 1) (two_bytes 0 0) (omega (arith, names_of_length fs ss n h))
    ∙ ap (λ m. is_earlier (rules.order (get_or l (k - 1) (two_bytes 0 0)) (get_or l m (two_bytes 0 0))) && in_order (drop m l)) q
    ∙ ap (λ o. is_earlier o && in_order (drop k l)) (rw (names_of_at fs ss n h (k - 1) (omega arith), names_of_at fs ss n h k b) (sym e))

-- what a test of that answer says
pub is_first : (r : Ordering) → is_earlier (order_of r) ≡ (ordering_index r == 0)
is_first Less = refl
is_first Equal = refl
is_first Greater = refl

-- columns that hold a table of so many
pub names_of_lem : (fs ss : List ℕ) (n : ℕ) → NameColumns fs ss → n ≤ 64 → Names fs ss n
names_of_lem fs ss n h k = record { firsts_long = h.firsts_long; seconds_long = h.seconds_long; few = k }

pub table_many : (fs ss : List ℕ) (n : ℕ) → 64 < n → is_register_table fs ss n ≡ false
table_many fs ss n h = rw (lt-leb n 64 h)

pub table_few : (fs ss : List ℕ) (n : ℕ) → n ≤ 64 → is_register_table fs ss n ≡ in_order (names_of fs ss n)
table_few fs ss n h = rw (le-leb n 64 h)

-- the first rows of values and steps
abbrev pub pairs_of : (values steps : List ℤ) → (count : ℕ) → List (ℤ × ℤ)
pairs_of vs ts n = take n (zip_with as_pair vs ts)

within_cons : (x : ℤ × ℤ) (l : List (ℤ × ℤ)) → all_within (x ∷ l) ≡ (in_bounds x.0 && in_bounds x.1 && all_within l)
unfolding all_within
within_cons x l = refl

module _ (vs ts : List ℤ) (n : ℕ) (h : NumberColumns vs ts) (k : n ≤ 64) where
  columns_same : length vs ≡ length ts
  columns_same = h.values_long ∙ sym h.steps_long

  pairs_length : length (pairs_of vs ts n) ≡ n
  pairs_length = length-take-le n (zip_with as_pair vs ts) (omega (arith, zip_length as_pair vs ts columns_same, h.values_long))

  pairs_at : (i : ℕ) → i < n → get_or (pairs_of vs ts n) i (pos 0, pos 0) ≡ (get_or vs i (pos 0), get_or ts i (pos 0))
  pairs_at i j = get_or-take n (zip_with as_pair vs ts) i (pos 0, pos 0) j ∙ zip_at as_pair vs ts i (pos 0) (pos 0) columns_same

  -- the test of the rows from i on, by the row at i
  within_at : (i : ℕ) → i < n → all_within (drop i (pairs_of vs ts n)) ≡ (in_bounds (get_or vs i (pos 0)) && in_bounds (get_or ts i (pos 0)) && all_within (drop (i + 1) (pairs_of vs ts n)))
  within_at i j =
      ap all_within (drop-cons (pairs_of vs ts n) i (pos 0, pos 0) (omega (arith, pairs_length)))
      ∙ within_cons (get_or (pairs_of vs ts n) i (pos 0, pos 0)) (drop (suc i) (pairs_of vs ts n))
      ∙ ap (λ (x : ℤ × ℤ). in_bounds x.0 && in_bounds x.1 && all_within (drop (suc i) (pairs_of vs ts n))) (pairs_at i j)
      ∙ ap (λ m. in_bounds (get_or vs i (pos 0)) && in_bounds (get_or ts i (pos 0)) && all_within (drop m (pairs_of vs ts n))) (sym (add-one i))

  -- the rows from i on pass, with those before, if the row at i and those behind it do
  pub within_on : (w v t : Bool) (i : ℕ) → i < n → v ≡ in_bounds (get_or vs i (pos 0)) → t ≡ in_bounds (get_or ts i (pos 0))
      → (w && all_within (drop i (pairs_of vs ts n))) ≡ ((w && (v && t)) && all_within (drop (i + 1) (pairs_of vs ts n)))
  within_on w v t i j e f = ap (λ b. w && b) (within_at i j) ∙ rw (e, f) (go w (in_bounds (get_or vs i (pos 0))) (in_bounds (get_or ts i (pos 0))) (all_within (drop (i + 1) (pairs_of vs ts n))))
    where
      go : (w a b r : Bool) → (w && (a && b && r)) ≡ ((w && (a && b)) && r)
      go true a b r = refl
      go false a b r = refl

  pub within_end : (i : ℕ) → n ≤ i → all_within (drop i (pairs_of vs ts n)) ≡ true
  unfolding all_within
  within_end i j = let e : length (pairs_of vs ts n) ≤ i = omega (arith, pairs_length) in rw (drop_of_length-le (pairs_of vs ts n) e)

pub and_nothing : (w : Bool) → (w && true) ≡ w
and_nothing true = refl
and_nothing false = refl

pub bounded_many : (vs ts : List ℤ) (n : ℕ) → 64 < n → is_bounded vs ts n ≡ false
bounded_many vs ts n h = rw (lt-leb n 64 h)

pub bounded_few : (vs ts : List ℤ) (n : ℕ) → n ≤ 64 → is_bounded vs ts n ≡ all_within (pairs_of vs ts n)
bounded_few vs ts n h = rw (le-leb n 64 h)
