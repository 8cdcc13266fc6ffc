-- Laws of columns, places and moves, over plain lists. Assumes nothing.
use Rattle.std.specs.Prelude.{Option, None, Some, Result, Ok, Err}
use Rattle.std.specs.declared.cmp.Ordering.{Ordering}
use mathlib.Core.Path.{◌≡◌, refl, sym, ap, ◌∙◌, subst}
use mathlib.Core.Bool.{Bool, true, false}
use mathlib.Core.List.{List, [], ◌∷◌, ◌++◌}
use Prim.Native.Nat.{ℕ, zero, suc, ◌+◌, ◌-◌, ◌≤◌, ◌<◌}
use native.Mathlib.Numerals.{add-one}
use native.Mathlib.Omega.{arith}
use lib.ListN.{length, take, drop, get_or, set, drop_of_length-le, length-set}
use lib.Seq.{drop-cons, length-take-le, get_or-take, take-set-lt, set-get_or, paste}
use lib.IntN.{ℤ, pos}
use borrow.Author.Tests.{le-leb, lt-leb}
use Rattle.rules.specs.declared.Name.{Name}
use Rattle.rules.specs.declared.Register.{Register}
use Rattle.rules.specs.declared.Turn.{Turn}
use Rattle.rules.specs.declared.Turn.TheVariants.{Still, Up, Down}
use Rattle.rules.specs.Names as rules
use Rattle.rules.specs.Names.{two_bytes, same_name, earlier, same, later}
use Rattle.rules.specs.Laws.Names.{same_self, same_one}
use Rattle.rules.specs.Refusals.{value, bad, ◌>>=◌}
use Rattle.rules.specs.Bytes.{first_where}
use Rattle.rules.specs.Registers.{register, register_of, put, set_value, Seen, Reference, refer_by}
use Rattle.rules.specs.Laws.Registers.{Before, Means, means, names, Ordered, Sorted, not_found, put_new, put_sorted}
use Rattle.rules.specs.Columns.{zip_at, zip_length, zip_set}
use Rattle.rules.specs.declared.Refusal.{Refusal}
use Rattle.rules.specs.Results.{refusal_number}
use Rattle.registers.specs.Table.Columns.{zip_with, as_register, as_pair, names_of, table_of, Names, RegistersInvariant}
use Rattle.registers.specs.Table.Places.{order_of, order_at, register_place, next_register_place}
use Rattle.registers.specs.Table.Moves.{inserted}
use Rattle.registers.specs.Table.Answers.{turned_of}

-- two columns of one length

module _ {A B C : Type 0} (f : A → B → C) where
  -- a row of both that is inserted is a row of the whole
  pub zip_inserted : (xs : List A) (ys : List B) (i k : ℕ) (a : A) (b : B)
      → zip_with f (inserted xs i k a) (inserted ys i k b) ≡ inserted (zip_with f xs ys) i k (f a b)
  unfolding zip_with inserted
  zip_inserted [] ys i k a b = refl
  zip_inserted (x ∷ xs) [] zero zero a b = refl
  zip_inserted (x ∷ xs) [] zero (suc k) a b = refl
  zip_inserted (x ∷ xs) [] (suc i) k a b = refl
  zip_inserted (x ∷ xs) (y ∷ ys) zero zero a b = refl
  zip_inserted (x ∷ xs) (y ∷ ys) zero (suc k) a b = ap (λ l. f a b ∷ l) (zip_inserted xs ys zero k x y)
  zip_inserted (x ∷ xs) (y ∷ ys) (suc i) k a b = ap (λ l. f x y ∷ l) (zip_inserted xs ys i k a b)

-- moves

module _ {A : Type 0} where
  -- those from the first on are one place down
  moved_down : (l : List A) (k : ℕ) (b : A) → k < length l → inserted l zero k b ≡ b ∷ (take k l ++ drop (suc k) l)
  unfolding inserted
  moved_down [] k b h = absurd (omega arith)
  moved_down (x ∷ l) zero b h = refl
  moved_down (x ∷ l) (suc k) b h = ap (λ t. b ∷ t) (moved_down l k x (omega arith))

  -- the part from a place on is copied one place down, and the place is set
  insert_copied : (l : List A) (i k : ℕ) (b : A) → i + k < length l → set (paste l (suc i) (drop i l) k) i b ≡ inserted l i k b
  unfolding inserted
  insert_copied [] i k b h = absurd (omega arith)
  insert_copied (x ∷ l) zero zero b h = refl
  insert_copied (x ∷ l) zero (suc k) b h =
      let e : 1 + suc k ≡ suc (suc k) = omega arith in
      ap (λ j. b ∷ (x ∷ (take k l ++ drop j (x ∷ l)))) e ∙ ap (λ t. b ∷ t) (sym (moved_down l k x (omega arith)))
  insert_copied (x ∷ l) (suc i) k b h =
      let e : suc (suc i) + k ≡ suc (suc i + k) = omega arith in
      ap (λ j. set (take (suc (suc i)) (x ∷ l) ++ take k (drop i l) ++ drop j (x ∷ l)) (suc i) b) e ∙ ap (λ t. x ∷ t) (insert_copied l i k b (omega arith))

  -- the same in the numbers of the code
  pub insert_done : (l m : List A) (i n : ℕ) (b : A) → i ≤ n → n < length l → m ≡ paste l (i + 1) (drop i l) (n - i) → set m i b ≡ inserted l i (n - i) b
  insert_done l m i n b h k e = ap (λ t. set t i b) (e ∙ ap (λ j. paste l j (drop i l) (n - i)) (add-one i)) ∙ insert_copied l i (n - i) b (omega arith)

  pub insert_length : (l : List A) (i k : ℕ) (b : A) → length (inserted l i k b) ≡ length l
  unfolding inserted
  insert_length [] i k b = refl
  insert_length (x ∷ l) zero zero b = refl
  insert_length (x ∷ l) zero (suc k) b = ap suc (insert_length l zero k x)
  insert_length (x ∷ l) (suc i) k b = ap suc (insert_length l i k b)

  -- what is inserted stands between the rows before it and those after
  pub insert_take : (l : List A) (i k n : ℕ) (b : A) → i + k ≡ n → n < length l → take (suc n) (inserted l i k b) ≡ take i (take n l) ++ b ∷ drop i (take n l)
  unfolding inserted
  insert_take [] i k n b e h = absurd (omega arith)
  insert_take (x ∷ l) zero zero zero b e h = refl
  insert_take (x ∷ l) zero zero (suc n) b e h = absurd (omega arith)
  insert_take (x ∷ l) zero (suc k) zero b e h = absurd (omega arith)
  insert_take (x ∷ l) zero (suc k) (suc n) b e h = ap (λ t. b ∷ t) (insert_take l zero k n x (omega arith) (omega arith))
  insert_take (x ∷ l) (suc i) k zero b e h = absurd (omega arith)
  insert_take (x ∷ l) (suc i) k (suc n) b e h = ap (λ t. x ∷ t) (insert_take l i k n b (omega arith) (omega arith))

-- places

-- a place, so many rows further down
abbrev pub further : ℕ → Result ℕ ℕ → Result ℕ ℕ
further i (Ok k) = Ok (i + k)
further i (Err k) = Err (i + k)

further_next : (i : ℕ) (p : Result ℕ ℕ) → further i (next_register_place p) ≡ further (i + 1) p
further_next i (Ok k) = ap Ok (omega arith)
further_next i (Err k) = ap Err (omega arith)

pub further_0 : (p : Result ℕ ℕ) → further 0 p ≡ p
further_0 (Ok k) = ap Ok (omega arith)
further_0 (Err k) = ap Err (omega arith)

-- how the search goes on at a row, by its order
module _ (n : Name) (l : List Name) (i : ℕ) (d : Name) (h : i < length l) where
  pub place_earlier : rules.order n (get_or l i d) ≡ earlier → further i (register_place n (drop i l)) ≡ Err i
  unfolding register_place
  place_earlier e = rw (drop-cons l i d, register_place, e) (ap Err (omega arith))

  pub place_same : rules.order n (get_or l i d) ≡ same → further i (register_place n (drop i l)) ≡ Ok i
  unfolding register_place
  place_same e = rw (drop-cons l i d, register_place, e) (ap Ok (omega arith))

  pub place_later : rules.order n (get_or l i d) ≡ later → further i (register_place n (drop i l)) ≡ further (i + 1) (register_place n (drop (i + 1) l))
  unfolding register_place
  place_later e = rw (drop-cons l i d, register_place, e) (further_next i (register_place n (drop (suc i) l)) ∙ ap (λ j. further (i + 1) (register_place n (drop j l))) (sym (add-one i)))

pub place_end : (n : Name) (l : List Name) (i : ℕ) → length l ≤ i → further i (register_place n (drop i l)) ≡ Err i
unfolding register_place
place_end n l i h = rw (drop_of_length-le l h) (ap Err (omega arith))

-- a name that has a place stands there; one that has none belongs among the others or after them
abbrev pub Stands : Name → List Name → Result ℕ ℕ → Type 0
Stands n l (Ok i) = (i < length l) × (get_or l i (two_bytes 0 0) ≡ n)
Stands n l (Err i) = i ≤ length l

stands_next : (n m : Name) (l : List Name) (p : Result ℕ ℕ) → Stands n l p → Stands n (m ∷ l) (next_register_place p)
stands_next n m l (Ok i) h = (omega arith, h.1)
stands_next n m l (Err i) h = omega arith

pub stands : (n : Name) (l : List Name) → Stands n l (register_place n l)
unfolding register_place
stands n [] = omega arith
stands n (m ∷ l) = go (rules.order n m) (means n m) (stands_next n m l (register_place n l) (stands n l))
  where
    go : (o : rules.Order) → Means o n m → Stands n (m ∷ l) (next_register_place (register_place n l))
        → Stands n (m ∷ l) (elim o [ earlier ↦ Err 0 | same ↦ Ok 0 | later ↦ next_register_place (register_place n l) ])
    go earlier h i = omega arith
    go same h i = (omega arith, sym h)
    go later h i = i

-- the register in a row, if a name has a place
abbrev pub row_of : Result ℕ ℕ → List Register → Option Register
row_of (Ok i) rs = Some (get_or rs i (register (two_bytes 0 0) (pos 0) (pos 0)))
row_of (Err i) rs = None

row_next : (p : Result ℕ ℕ) (x : Register) (rs : List Register) → row_of (next_register_place p) (x ∷ rs) ≡ row_of p rs
row_next (Ok i) x rs = refl
row_next (Err i) x rs = refl

after_distinct : (n m : Name) → Before m n → same_name n m ≡ false
after_distinct n m b = go (same_name n m) refl
  where
    go : (t : Bool) → same_name n m ≡ t → t ≡ false
    go true e = let q = same_one n m e in absurd (omega (arith, b.1 (omega (arith, ap (λ x. x.first) q)), ap (λ x. x.second) q))
    go false e = refl

-- in a table in order, a name is looked up at its place
pub lookup_place : (n : Name) (rs : List Register) → Sorted rs → register_of n rs ≡ row_of (register_place n (names rs)) rs
unfolding register_of first_where register_place
lookup_place n [] s = refl
lookup_place n (x ∷ xs) s = go (rules.order n x.name) refl (means n x.name) (lookup_place n xs s.1)
  where
    go : (o : rules.Order) → rules.order n x.name ≡ o → Means o n x.name → register_of n xs ≡ row_of (register_place n (names xs)) xs
        → register_of n (x ∷ xs) ≡ row_of (elim o [ earlier ↦ Err 0 | same ↦ Ok 0 | later ↦ next_register_place (register_place n (names xs)) ]) (x ∷ xs)
    go earlier e h ih = not_found n (x ∷ xs) e s
    go same e h ih = rw (register_of, first_where, subst (λ m. same_name n m ≡ true) h (same_self n))
    go later e h ih = rw (register_of, first_where, after_distinct n x.name h) (ih ∙ sym (row_next (register_place n (names xs)) x xs))

-- what is put in a row, or before it
abbrev pub put_at : Result ℕ ℕ → Register → List Register → List Register
put_at (Ok i) r rs = set rs i r
put_at (Err i) r rs = take i rs ++ r ∷ drop i rs

put_next : (p : Result ℕ ℕ) (r x : Register) (rs : List Register) → put_at (next_register_place p) r (x ∷ rs) ≡ x ∷ put_at p r rs
put_next (Ok i) r x rs = refl
put_next (Err i) r x rs = refl

-- a register is put at the place of its name
pub put_place : (r : Register) (rs : List Register) → put r rs ≡ put_at (register_place r.name (names rs)) r rs
unfolding put register_place
put_place r [] = refl
put_place r (x ∷ xs) = go (rules.order r.name x.name) (put_place r xs)
  where
    go : (o : rules.Order) → put r xs ≡ put_at (register_place r.name (names xs)) r xs
        → elim o [ earlier ↦ r ∷ x ∷ xs | same ↦ r ∷ xs | later ↦ x ∷ put r xs ]
        ≡ put_at (elim o [ earlier ↦ Err 0 | same ↦ Ok 0 | later ↦ next_register_place (register_place r.name (names xs)) ]) r (x ∷ xs)
    go earlier ih = refl
    go same ih = refl
    go later ih = ap (λ l. x ∷ l) ih ∙ sym (put_next (register_place r.name (names xs)) r x xs)

-- the names of a table are its column of names
pub names_zip : (n : ℕ) (ns : List Name) (xs : List (ℤ × ℤ)) → length ns ≡ length xs → names (take n (zip_with as_register ns xs)) ≡ take n ns
unfolding zip_with
names_zip zero ns xs e = refl
names_zip (suc n) [] xs e = refl
names_zip (suc n) (m ∷ ns) [] e = absurd (omega arith)
names_zip (suc n) (m ∷ ns) (x ∷ xs) e = ap (λ l. m ∷ l) (names_zip n ns xs (omega arith))

-- the columns of a table

module _ (fs ss : List ℕ) (n : ℕ) (h : Names fs ss n) where
  names_same : length fs ≡ length ss
  names_same = omega arith

  pub names_of_length : length (names_of fs ss n) ≡ n
  names_of_length = length-take-le n (zip_with two_bytes fs ss) (omega (arith, zip_length two_bytes fs ss names_same))

  pub names_of_at : (i : ℕ) → i < n → get_or (names_of fs ss n) i (two_bytes 0 0) ≡ two_bytes (get_or fs i 0) (get_or ss i 0)
  names_of_at i k = get_or-take n (zip_with two_bytes fs ss) i (two_bytes 0 0) k ∙ zip_at two_bytes fs ss i 0 0 names_same

  -- the order of a name and the row at i, by the answer that a comparison gave
  pub row_order : (m : Name) (i : ℕ) → i < n → (r v : Ordering) → order_of r ≡ order_at fs ss i m → r ≡ v → rules.order m (get_or (names_of fs ss n) i (two_bytes 0 0)) ≡ order_of v
  row_order m i k r v e q = ap (rules.order m) (names_of_at i k) ∙ sym e ∙ ap order_of q

module _ (fs ss : List ℕ) (vs ts : List ℤ) where
  -- a row that is set in each column is a register that is set
  table_set : (n i a b : ℕ) (v s : ℤ) → i < n → table_of (set fs i a) (set ss i b) (set vs i v) (set ts i s) n ≡ set (table_of fs ss vs ts n) i (register (two_bytes a b) v s)
  table_set n i a b v s k =
      rw (zip_set two_bytes fs ss i a b, zip_set as_pair vs ts i v s, zip_set as_register (zip_with two_bytes fs ss) (zip_with as_pair vs ts) i (two_bytes a b) (as_pair v s))
      (take-set-lt n (zip_with as_register (zip_with two_bytes fs ss) (zip_with as_pair vs ts)) i (register (two_bytes a b) v s) k)

  -- a row of both that is inserted is a row of the whole
  table_inserted : (n i a b : ℕ) (v s : ℤ) → i ≤ n → n < length (zip_with as_register (zip_with two_bytes fs ss) (zip_with as_pair vs ts))
      → table_of (inserted fs i (n - i) a) (inserted ss i (n - i) b) (inserted vs i (n - i) v) (inserted ts i (n - i) s) (n + 1)
      ≡ take i (table_of fs ss vs ts n) ++ register (two_bytes a b) v s ∷ drop i (table_of fs ss vs ts n)
  table_inserted n i a b v s k l =
      rw (
        zip_inserted two_bytes fs ss i (n - i) a b,
        zip_inserted as_pair vs ts i (n - i) v s,
        zip_inserted as_register (zip_with two_bytes fs ss) (zip_with as_pair vs ts) i (n - i) (two_bytes a b) (as_pair v s),
        add-one n,
      )
      (insert_take (zip_with as_register (zip_with two_bytes fs ss) (zip_with as_pair vs ts)) i (n - i) n (register (two_bytes a b) v s) (omega arith) l)

-- four columns of 64 rows
abbrev Long : (fs ss : List ℕ) → (vs ts : List ℤ) → Type 0
Long fs ss vs ts = (length fs ≡ 64) × (length ss ≡ 64) × (length vs ≡ 64) × (length ts ≡ 64)

same_long : (fs ss : List ℕ) (vs ts : List ℤ) → Long fs ss vs ts → length (zip_with two_bytes fs ss) ≡ length (zip_with as_pair vs ts)
same_long fs ss vs ts l = omega (arith, zip_length two_bytes fs ss (omega arith), zip_length as_pair vs ts (omega arith))

-- columns whose registers stand in order are a table
table_of_lem : (fs ss : List ℕ) (vs ts : List ℤ) (n : ℕ) → Long fs ss vs ts → n ≤ 64 → Sorted (table_of fs ss vs ts n) → RegistersInvariant fs ss vs ts n
table_of_lem fs ss vs ts n l k o =
    record {
      names = record { firsts_long = l.0; seconds_long = l.1; few = k };
      values_long = l.2;
      steps_long = l.3;
      sorted = subst Ordered (names_zip n (zip_with two_bytes fs ss) (zip_with as_pair vs ts) (same_long fs ss vs ts l)) o;
    }

-- what is put is judged by how many there are then
set_judged : (m : Name) (v s : ℤ) (rs new : List Register) → put (register m v s) rs ≡ new → length new ≤ 64 → value new ≡ set_value m v s rs
unfolding set_value
set_judged m v s rs new e k = rw (set_value, e, le-leb (length new) 64 k)

set_refused : (m : Name) (v s : ℤ) (rs : List Register) → 64 < length (put (register m v s) rs) → bad 11 ≡ set_value m v s rs
unfolding set_value
set_refused m v s rs k = rw (set_value, lt-leb (length (put (register m v s) rs)) 64 k)

module _ (fs ss : List ℕ) (vs ts : List ℤ) (n : ℕ) (h : RegistersInvariant fs ss vs ts n) where
  rows_same : length (zip_with two_bytes fs ss) ≡ length (zip_with as_pair vs ts)
  rows_same = same_long fs ss vs ts (omega arith)

  rows_long : length (zip_with as_register (zip_with two_bytes fs ss) (zip_with as_pair vs ts)) ≡ 64
  rows_long =
      omega (arith, zip_length two_bytes fs ss (omega arith), zip_length as_register (zip_with two_bytes fs ss) (zip_with as_pair vs ts) rows_same)

  pub table_names : names (table_of fs ss vs ts n) ≡ names_of fs ss n
  table_names = names_zip n (zip_with two_bytes fs ss) (zip_with as_pair vs ts) rows_same

  pub table_sorted : Sorted (table_of fs ss vs ts n)
  table_sorted = subst Ordered (sym table_names) h.sorted

  pub table_length : length (table_of fs ss vs ts n) ≡ n
  table_length = length-take-le n (zip_with as_register (zip_with two_bytes fs ss) (zip_with as_pair vs ts)) (omega (arith, rows_long))

  -- what stands in a row
  table_at : (i : ℕ) → i < n → get_or (table_of fs ss vs ts n) i (register (two_bytes 0 0) (pos 0) (pos 0)) ≡ register (two_bytes (get_or fs i 0) (get_or ss i 0)) (get_or vs i (pos 0)) (get_or ts i (pos 0))
  table_at i k =
      get_or-take n (zip_with as_register (zip_with two_bytes fs ss) (zip_with as_pair vs ts)) i (register (two_bytes 0 0) (pos 0) (pos 0)) k
      ∙ zip_at as_register (zip_with two_bytes fs ss) (zip_with as_pair vs ts) i (two_bytes 0 0) (as_pair (pos 0) (pos 0)) rows_same
      ∙ rw (zip_at two_bytes fs ss i 0 0 (omega arith), zip_at as_pair vs ts i (pos 0) (pos 0) (omega arith))

  module _ (m : Name) (i : ℕ) where
    stands_at : register_place m (names_of fs ss n) ≡ Ok i → (i < length (names_of fs ss n)) × (get_or (names_of fs ss n) i (two_bytes 0 0) ≡ m)
    stands_at e = subst (Stands m (names_of fs ss n)) e (stands m (names_of fs ss n))

    -- a name that is found stands in a row of the table, and its register is looked up there
    pub found_row : register_place m (names_of fs ss n) ≡ Ok i → i < n
    found_row e = omega (arith, (stands_at e).0, names_of_length fs ss n h.names)

    pub found_name : register_place m (names_of fs ss n) ≡ Ok i → two_bytes (get_or fs i 0) (get_or ss i 0) ≡ m
    found_name e = sym (names_of_at fs ss n h.names i (found_row e)) ∙ (stands_at e).1

    pub found_lookup : register_place m (names_of fs ss n) ≡ Ok i → register_of m (table_of fs ss vs ts n) ≡ Some (register m (get_or vs i (pos 0)) (get_or ts i (pos 0)))
    found_lookup e =
        lookup_place m (table_of fs ss vs ts n) table_sorted
        ∙ rw (table_names, e) (ap Some (table_at i (found_row e) ∙ ap (λ x. register x (get_or vs i (pos 0)) (get_or ts i (pos 0))) (found_name e)))

    -- the register of a name that is not found is none
    pub not_lookup : register_place m (names_of fs ss n) ≡ Err i → register_of m (table_of fs ss vs ts n) ≡ None
    not_lookup e = lookup_place m (table_of fs ss vs ts n) table_sorted ∙ rw (table_names, e)

    pub not_row : register_place m (names_of fs ss n) ≡ Err i → i ≤ n
    not_row e = omega (arith, subst (Stands m (names_of fs ss n)) e (stands m (names_of fs ss n)), names_of_length fs ss n h.names)

-- a reference to a name that is not predefined, by its turn

-- the register's new value, and the registers with it
abbrev goes : Name → ℤ → List Register → ℤ → Reference
goes m by rs z = value (z, put (register m z by) rs)

refer_is : (t : Turn) (m : Name) (old by v : ℤ) (rs new : List Register) (shown : Seen) → value v ≡ turned_of t old by → put (register m v by) rs ≡ new → (v ≡ old → new ≡ rs)
    → value (v, new) ≡ refer_by t None (Some (register m old by)) shown rs
refer_is Still m old by v rs new shown q e f = let o : v ≡ old = cc in rw (f o, o)
refer_is Up m old by v rs new shown q e f = subst (λ j. ◌≡◌ {A = Reference} (value (v, new)) (j >>= goes m by rs)) q (rw e)
refer_is Down m old by v rs new shown q e f = subst (λ j. ◌≡◌ {A = Reference} (value (v, new)) (j >>= goes m by rs)) q (rw e)

refer_bad : (t : Turn) (m : Name) (old by : ℤ) (rs : List Register) (shown : Seen) (k : ℕ) → bad k ≡ turned_of t old by → bad k ≡ refer_by t None (Some (register m old by)) shown rs
refer_bad Still m old by rs shown k q = let z : ◌≡◌ {A = ℕ} 0 1 = cc in absurd (omega arith)
refer_bad Up m old by rs shown k q = subst (λ j. ◌≡◌ {A = Reference} (bad k) (j >>= goes m by rs)) q refl
refer_bad Down m old by rs shown k q = subst (λ j. ◌≡◌ {A = Reference} (bad k) (j >>= goes m by rs)) q refl

refer_none : (t : Turn) (rs : List Register) (shown : Seen) → value (pos 0, rs) ≡ refer_by t None None shown rs
refer_none Still rs shown = refl
refer_none Up rs shown = refl
refer_none Down rs shown = refl

-- the ways to set a register, and to refer to one

module _ (fs ss : List ℕ) (vs ts : List ℤ) (n : ℕ) (h : RegistersInvariant fs ss vs ts n) (m : Name) (i : ℕ) where
  set_row : (v s : ℤ) → register_place m (names_of fs ss n) ≡ Ok i → put (register m v s) (table_of fs ss vs ts n) ≡ table_of fs ss (set vs i v) (set ts i s) n
  set_row v s e =
      put_place (register m v s) (table_of fs ss vs ts n) ∙ rw (table_names fs ss vs ts n h, e)
      (sym (rw (set-get_or fs i 0, set-get_or ss i 0, found_name fs ss vs ts n h m i e)
      at (table_set fs ss vs ts n i (get_or fs i 0) (get_or ss i 0) v s (found_row fs ss vs ts n h m i e))))

  pub set_table : (v s : ℤ) → RegistersInvariant fs ss (set vs i v) (set ts i s) n
  set_table v s =
      record { names = h.names; values_long = length-set vs i v ∙ h.values_long; steps_long = length-set ts i s ∙ h.steps_long; sorted = h.sorted }

  -- a register of the name is replaced
  pub set_old : (v s : ℤ) → register_place m (names_of fs ss n) ≡ Ok i → value (table_of fs ss (set vs i v) (set ts i s) n) ≡ set_value m v s (table_of fs ss vs ts n)
  set_old v s e =
      set_judged m v s (table_of fs ss vs ts n) (table_of fs ss (set vs i v) (set ts i s) n) (set_row v s e)
      (omega (arith, h.names.few, table_length fs ss (set vs i v) (set ts i s) n (set_table v s)))

  -- a new one is put in its place
  module _ (v s : ℤ) (e : register_place m (names_of fs ss n) ≡ Err i) (k : n < 64) where
    put_new_row : put (register m v s) (table_of fs ss vs ts n)
        ≡ table_of (inserted fs i (n - i) m.first) (inserted ss i (n - i) m.second) (inserted vs i (n - i) v) (inserted ts i (n - i) s) (n + 1)
    put_new_row =
        put_place (register m v s) (table_of fs ss vs ts n) ∙ rw (table_names fs ss vs ts n h, e)
        (sym (table_inserted fs ss vs ts n i m.first m.second v s (not_row fs ss vs ts n h m i e) (omega (arith, rows_long fs ss vs ts n h))))

    pub set_new_table : RegistersInvariant (inserted fs i (n - i) m.first) (inserted ss i (n - i) m.second) (inserted vs i (n - i) v) (inserted ts i (n - i) s) (n + 1)
    set_new_table =
        table_of_lem (inserted fs i (n - i) m.first) (inserted ss i (n - i) m.second) (inserted vs i (n - i) v) (inserted ts i (n - i) s) (n + 1) (
          insert_length fs i (n - i) m.first ∙ h.names.firsts_long,
          insert_length ss i (n - i) m.second ∙ h.names.seconds_long,
          insert_length vs i (n - i) v ∙ h.values_long,
          insert_length ts i (n - i) s ∙ h.steps_long,
        )
        (omega arith) (subst Sorted put_new_row (put_sorted (register m v s) (table_of fs ss vs ts n) (table_sorted fs ss vs ts n h)))

    pub set_new : value (table_of (inserted fs i (n - i) m.first) (inserted ss i (n - i) m.second) (inserted vs i (n - i) v) (inserted ts i (n - i) s) (n + 1)) ≡ set_value m v s (table_of fs ss vs ts n)
    set_new =
        let fs' = inserted fs i (n - i) m.first in let ss' = inserted ss i (n - i) m.second in
        let vs' = inserted vs i (n - i) v in let ts' = inserted ts i (n - i) s in
        set_judged m v s (table_of fs ss vs ts n) (table_of fs' ss' vs' ts' (n + 1)) put_new_row (omega (arith, table_length fs' ss' vs' ts' (n + 1) set_new_table))

  -- "11: a 65th register"
  pub set_full : (v s : ℤ) → register_place m (names_of fs ss n) ≡ Err i → 64 ≤ n → bad 11 ≡ set_value m v s (table_of fs ss vs ts n)
  set_full v s e k =
      set_refused m v s (table_of fs ss vs ts n)
      (omega (arith, put_new (register m v s) (table_of fs ss vs ts n) (not_lookup fs ss vs ts n h m i e), table_length fs ss vs ts n h))

  step_row : (v : ℤ) → register_place m (names_of fs ss n) ≡ Ok i → put (register m v (get_or ts i (pos 0))) (table_of fs ss vs ts n) ≡ table_of fs ss (set vs i v) ts n
  step_row v e = rw (set-get_or ts i (pos 0)) at (set_row v (get_or ts i (pos 0)) e)

  pub step_table : (v : ℤ) → RegistersInvariant fs ss (set vs i v) ts n
  step_table v = record { names = h.names; values_long = length-set vs i v ∙ h.values_long; steps_long = h.steps_long; sorted = h.sorted }

  -- a register that is there steps to its new value, if it has one
  pub step_is : (t : Turn) (v : ℤ) → register_place m (names_of fs ss n) ≡ Ok i → value v ≡ turned_of t (get_or vs i (pos 0)) (get_or ts i (pos 0)) → (shown : Seen)
      → value (v, table_of fs ss (set vs i v) ts n) ≡ refer_by t None (register_of m (table_of fs ss vs ts n)) shown (table_of fs ss vs ts n)
  step_is t v e q shown =
      rw (found_lookup fs ss vs ts n h m i e)
      (refer_is t m (get_or vs i (pos 0)) (get_or ts i (pos 0)) v (table_of fs ss vs ts n) (table_of fs ss (set vs i v) ts n) shown q (step_row v e)
      (λ o. rw o (rw (set-get_or vs i (pos 0)))))

  -- and is as it was, if it has none
  pub step_bad : (t : Turn) (r : Refusal) → register_place m (names_of fs ss n) ≡ Ok i → bad (refusal_number r) ≡ turned_of t (get_or vs i (pos 0)) (get_or ts i (pos 0)) → (shown : Seen)
      → bad (refusal_number r) ≡ refer_by t None (register_of m (table_of fs ss vs ts n)) shown (table_of fs ss vs ts n)
  step_bad t r e q shown = rw (found_lookup fs ss vs ts n h m i e) (refer_bad t m (get_or vs i (pos 0)) (get_or ts i (pos 0)) (table_of fs ss vs ts n) shown (refusal_number r) q)

  -- "Undefined ones give 0 .., and a step does not make one"
  pub step_none : (t : Turn) → register_place m (names_of fs ss n) ≡ Err i → (shown : Seen)
      → value (pos 0, table_of fs ss vs ts n) ≡ refer_by t None (register_of m (table_of fs ss vs ts n)) shown (table_of fs ss vs ts n)
  step_none t e shown = rw (not_lookup fs ss vs ts n h m i e) (refer_none t (table_of fs ss vs ts n) shown)
