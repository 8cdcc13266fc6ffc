-- Whether lent columns are a table: as tests, with the laws that they hold exactly where the table's invariants do. Assumes nothing.
use Rattle.std.specs.Prelude.{◌≡◌, refl, Bool, true, false, ◌&&◌, List, [], ◌∷◌, ℕ, zero, suc, leb, length, take, ℤ, nat_abs}
use Rattle.std.proofs.Common.{arith, leb-true, le-leb}
use Rattle.std.proofs.lemmas.Bool.{false≢true}
use Rattle.rules.specs.declared.Name.{Name}
use Rattle.rules.specs.Names.{Order, earlier, same, later, order, two_bytes}
use Rattle.rules.specs.Laws.Refusals.{both}
use Rattle.rules.specs.Laws.Registers.{Ahead, Ordered, BoundedTable}
use Rattle.registers.specs.Table.Columns.{zip_with, as_pair, as_register, names_of, table_of, RegistersInvariant}

-- the columns of names have all their rows
pub record NameColumns (firsts seconds : List ℕ) : Type 0 where
  pub firsts_long : length firsts ≡ 64
  pub seconds_long : length seconds ≡ 64

-- and so have those of numbers
pub record NumberColumns (values steps : List ℤ) : Type 0 where
  pub values_long : length values ≡ 64
  pub steps_long : length steps ≡ 64

abbrev pub is_earlier : Order → Bool
is_earlier earlier = true
is_earlier same = false
is_earlier later = false

-- whether a name stands before the first of a list
abbrev pub is_ahead : Name → List Name → Bool
is_ahead n [] = true
is_ahead n (m ∷ l) = is_earlier (order n m)

-- whether each name stands before the next
unfoldable pub in_order : List Name → Bool
in_order [] = true
in_order (n ∷ l) = is_ahead n l && in_order l

-- "The registers stand in name order", at most 64
abbrev pub is_register_table : (firsts seconds : List ℕ) → (count : ℕ) → Bool
is_register_table fs ss n = leb n 64 && in_order (names_of fs ss n)

-- both parts of a test hold
and_true : (a b : Bool) → a ≡ true → b ≡ true → (a && b) ≡ true
and_true a b e f = rw (e, f)

earlier_sound : (o : Order) → is_earlier o ≡ true → o ≡ earlier
earlier_sound earlier h = refl
earlier_sound same h = absurd (false≢true h)
earlier_sound later h = absurd (false≢true h)

ahead_sound : (n : Name) (l : List Name) → is_ahead n l ≡ true → Ahead n l
ahead_sound n [] h = tt
ahead_sound n (m ∷ l) h = earlier_sound (order n m) h

ahead_complete : (n : Name) (l : List Name) → Ahead n l → is_ahead n l ≡ true
ahead_complete n [] h = refl
ahead_complete n (m ∷ l) h = rw h

-- Names that pass the test are in order.
pub order_sound : (l : List Name) → in_order l ≡ true → Ordered l
unfolding in_order
order_sound [] h = tt
order_sound (n ∷ l) h = let b = both (is_ahead n l) (in_order l) h in (ahead_sound n l b.0, order_sound l b.1)

-- Names that are in order pass it.
pub order_complete : (l : List Name) → Ordered l → in_order l ≡ true
unfolding in_order
order_complete [] h = refl
order_complete (n ∷ l) h = and_true (is_ahead n l) (in_order l) (ahead_complete n l h.0) (order_complete l h.1)

module _ (fs ss : List ℕ) (vs ts : List ℤ) (n : ℕ) where
  -- Columns that pass the test are a table.
  pub registers_sound : NameColumns fs ss → NumberColumns vs ts → is_register_table fs ss n ≡ true → RegistersInvariant fs ss vs ts n
  registers_sound a b h =
      let t = both (leb n 64) (in_order (names_of fs ss n)) h in
      record {
        names = record { firsts_long = a.firsts_long; seconds_long = a.seconds_long; few = leb-true n 64 t.0 };
        values_long = b.values_long;
        steps_long = b.steps_long;
        sorted = order_sound (names_of fs ss n) t.1;
      }

  -- A table passes it.
  pub registers_complete : RegistersInvariant fs ss vs ts n → is_register_table fs ss n ≡ true
  registers_complete t = and_true (leb n 64) (in_order (names_of fs ss n)) (le-leb n 64 t.names.few) (order_complete (names_of fs ss n) t.sorted)

-- whether a number is within ±1,000,000,000
abbrev pub in_bounds : ℤ → Bool
in_bounds z = leb (nat_abs z) 1000000000

-- whether each value and each step is
unfoldable pub all_within : List (ℤ × ℤ) → Bool
all_within [] = true
all_within (x ∷ l) = in_bounds x.0 && in_bounds x.1 && all_within l

-- the first rows of two columns of at most 64 rows hold numbers within ±1,000,000,000
abbrev pub is_bounded : (values steps : List ℤ) → (count : ℕ) → Bool
is_bounded vs ts n = leb n 64 && all_within (take n (zip_with as_pair vs ts))

within_sound : (n : ℕ) (ns : List Name) (xs : List (ℤ × ℤ)) → all_within (take n xs) ≡ true → BoundedTable (take n (zip_with as_register ns xs))
unfolding all_within zip_with
within_sound zero ns xs h = tt
within_sound (suc n) [] xs h = tt
within_sound (suc n) (m ∷ ns) [] h = tt
within_sound (suc n) (m ∷ ns) (x ∷ xs) h =
    let b = both (in_bounds x.0 && in_bounds x.1) (all_within (take n xs)) h in
    let c = both (in_bounds x.0) (in_bounds x.1) b.0 in
    ((leb-true (nat_abs x.0) 1000000000 c.0, leb-true (nat_abs x.1) 1000000000 c.1), within_sound n ns xs b.1)

within_complete : (n : ℕ) (ns : List Name) (xs : List (ℤ × ℤ)) → length ns ≡ length xs → BoundedTable (take n (zip_with as_register ns xs)) → all_within (take n xs) ≡ true
unfolding all_within zip_with
within_complete zero ns xs e h = refl
within_complete (suc n) ns [] e h = refl
within_complete (suc n) [] (x ∷ xs) e h = absurd (omega arith)
within_complete (suc n) (m ∷ ns) (x ∷ xs) e h =
    and_true (in_bounds x.0 && in_bounds x.1) (all_within (take n xs))
    (and_true (in_bounds x.0) (in_bounds x.1) (le-leb (nat_abs x.0) 1000000000 h.0.0) (le-leb (nat_abs x.1) 1000000000 h.0.1))
    (within_complete n ns xs (omega arith) h.1)

zip_long : {A B C : Type 0} (f : A → B → C) (xs : List A) (ys : List B) → length xs ≡ length ys → length (zip_with f xs ys) ≡ length xs
unfolding zip_with
zip_long f [] ys e = refl
zip_long f (x ∷ xs) [] e = absurd (omega arith)
zip_long f (x ∷ xs) (y ∷ ys) e = let i = zip_long f xs ys (omega arith) in omega arith

module _ (fs ss : List ℕ) (vs ts : List ℤ) (n : ℕ) where
  -- The registers of columns that pass the test are within their bounds.
  pub bounded_sound : is_bounded vs ts n ≡ true → BoundedTable (table_of fs ss vs ts n)
  bounded_sound h = within_sound n (zip_with two_bytes fs ss) (zip_with as_pair vs ts) (both (leb n 64) (all_within (take n (zip_with as_pair vs ts))) h).1

  -- The columns of a table whose registers are within their bounds pass it.
  pub bounded_complete : RegistersInvariant fs ss vs ts n → BoundedTable (table_of fs ss vs ts n) → is_bounded vs ts n ≡ true
  bounded_complete t b =
      and_true (leb n 64) (all_within (take n (zip_with as_pair vs ts))) (le-leb n 64 t.names.few)
      (within_complete n (zip_with two_bytes fs ss) (zip_with as_pair vs ts) (omega (arith, zip_long two_bytes fs ss (omega arith), zip_long as_pair vs ts (omega arith))) b)
