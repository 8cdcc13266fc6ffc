-- Laws of the table: the place of a name, and the text that stands there. Assumes nothing.
use Rattle.std.specs.Prelude.{Option, None, Some}
use mathlib.Core.Path.{◌≡◌, refl, sym, ap, ◌∙◌, subst}
use mathlib.Core.Bool.{Bool, true, false, not, ◌&&◌, cond}
use Rattle.std.specs.List.{list_all, position_from, range_with_len}
use mathlib.Core.List.{List, [], ◌∷◌}
use Prim.Native.Nat.{ℕ, zero, suc, ◌+◌, ◌-◌, ◌≤◌, ◌<◌}
use native.Mathlib.Numerals.{add-one}
use native.Mathlib.Omega.{arith}
use lib.ListN.{length, take, drop, get_or, drop_of_length-le}
use lib.Seq.{drop-cons, drop-drop, length-take-le, get_or-take, take-take}
use Rattle.rules.specs.declared.Name.{Name}
use Rattle.rules.specs.Names.{two_bytes, same_name}
use Rattle.rules.specs.Laws.Names.{same_one}
use Rattle.rules.specs.Texts.{Text, text, text_of}
use Rattle.rules.specs.Laws.Texts.{found_first, found_later}
use Rattle.texts.specs.Table.Table.{zip_with, kind_of, TextRow, text_row, as_pair, names_of, text_rows, total_length, cut, texts_of, Names, TextsInvariant}
use Rattle.texts.specs.Table.Places.{next_text_place, text_place}
use Rattle.texts.specs.Table.Checks.{lacks_name}
use Rattle.rules.specs.Columns.{zip_at, zip_length}
use Rattle.texts.proofs.table.Lists.{sum_step, sum_mono}

-- places

-- a place, so many rows further down
abbrev pub further : ℕ → Option ℕ → Option ℕ
further i (Some k) = Some (i + k)
further i None = None

further_next : (i : ℕ) (p : Option ℕ) → further i (next_text_place p) ≡ further (i + 1) p
further_next i (Some k) = ap Some (omega arith)
further_next i None = refl

pub further_0 : (p : Option ℕ) → further 0 p ≡ p
further_0 (Some k) = ap Some (omega arith)
further_0 None = refl

-- how the search goes on at a row
module _ (n : Name) (l : List Name) (i : ℕ) (d : Name) (h : i < length l) where
  place_here : same_name n (get_or l i d) ≡ true → further i (text_place n (drop i l)) ≡ Some i
  unfolding text_place
  place_here e = rw (drop-cons l i d, text_place, e) (ap Some (omega arith))

  place_on : same_name n (get_or l i d) ≡ false → further i (text_place n (drop i l)) ≡ further (i + 1) (text_place n (drop (i + 1) l))
  unfolding text_place
  place_on e = rw (drop-cons l i d, text_place, e) (further_next i (text_place n (drop (suc i) l)) ∙ ap (λ j. further (i + 1) (text_place n (drop j l))) (sym (add-one i)))

place_end : (n : Name) (l : List Name) (i : ℕ) → length l ≤ i → further i (text_place n (drop i l)) ≡ None
unfolding text_place
place_end n l i h = rw (drop_of_length-le l h)

-- a name that has a place stands in a row
abbrev pub Stands : List Name → Option ℕ → Type 0
Stands l (Some i) = i < length l
Stands l None = Unit

stands_next : (m : Name) (l : List Name) (p : Option ℕ) → Stands l p → Stands (m ∷ l) (next_text_place p)
stands_next m l (Some i) h = omega arith
stands_next m l None h = tt

pub stands : (n : Name) (l : List Name) → Stands l (text_place n l)
unfolding text_place
stands n [] = tt
stands n (m ∷ l) = go (same_name n m) (stands_next m l (text_place n l) (stands n l))
  where
    go : (t : Bool) → Stands (m ∷ l) (next_text_place (text_place n l)) → Stands (m ∷ l) (elim t [ true ↦ Some 0 | false ↦ next_text_place (text_place n l) ])
    go true i = omega arith
    go false i = i

-- the columns of names

-- whether the row at i has a name
abbrev pub row_has : (fs ss : List ℕ) → Name → ℕ → Bool
row_has fs ss m i = same_name m (two_bytes (get_or fs i 0) (get_or ss i 0))

module _ (fs ss : List ℕ) (n : ℕ) (h : Names fs ss n) where
  names_same : length fs ≡ length ss
  names_same = omega arith

  pub names_of_length : length (names_of fs ss n) ≡ n
  names_of_length = length-take-le n (zip_with two_bytes fs ss) (omega (arith, zip_length two_bytes fs ss names_same))

  pub names_of_at : (i : ℕ) → i < n → get_or (names_of fs ss n) i (two_bytes 0 0) ≡ two_bytes (get_or fs i 0) (get_or ss i 0)
  names_of_at i k = get_or-take n (zip_with two_bytes fs ss) i (two_bytes 0 0) k ∙ zip_at two_bytes fs ss i 0 0 names_same

  module _ (m : Name) where
    past : (i : ℕ) → n ≤ i → length (names_of fs ss n) ≤ i
    past i k = omega (arith, names_of_length)

    row_same : (i : ℕ) → i < n → same_name m (get_or (names_of fs ss n) i (two_bytes 0 0)) ≡ row_has fs ss m i
    row_same i k = ap (same_name m) (names_of_at i k)

    -- a search by rows, of which d are left
    pub find_rows : (i d : ℕ) → d ≡ n - i → position_from (row_has fs ss m) i (range_with_len i d) ≡ further i (text_place m (drop i (names_of fs ss n)))
    find_rows i zero e = sym (place_end m (names_of fs ss n) i (past i (omega arith)))
    find_rows i (suc d) e = go (row_has fs ss m i) (row_same i (omega arith)) (find_rows (i + 1) d (omega arith))
      where
        here : i < length (names_of fs ss n)
        here = omega (arith, names_of_length)

        go : (t : Bool) → same_name m (get_or (names_of fs ss n) i (two_bytes 0 0)) ≡ t
            → position_from (row_has fs ss m) (i + 1) (range_with_len (i + 1) d) ≡ further (i + 1) (text_place m (drop (i + 1) (names_of fs ss n)))
            → cond t (Some i) (position_from (row_has fs ss m) (i + 1) (range_with_len (i + 1) d)) ≡ further i (text_place m (drop i (names_of fs ss n)))
        go true s q = sym (place_here m (names_of fs ss n) i (two_bytes 0 0) here s)
        go false s q = q ∙ sym (place_on m (names_of fs ss n) i (two_bytes 0 0) here s)

    pub lacks_rows : (i d : ℕ) → d ≡ n - i → list_all (λ j. not (row_has fs ss m j)) (range_with_len i d) ≡ lacks_name m (drop i (names_of fs ss n))
    unfolding lacks_name
    lacks_rows i zero e = let p : length (names_of fs ss n) ≤ i = past i (omega arith) in rw (drop_of_length-le (names_of fs ss n) p)
    lacks_rows i (suc d) e =
        ap (λ b. not (row_has fs ss m i) && b) (lacks_rows (i + 1) d (omega arith) ∙ ap (λ j. lacks_name m (drop j (names_of fs ss n))) (add-one i))
        ∙ ap (λ b. not b && lacks_name m (drop (suc i) (names_of fs ss n))) (sym (row_same i (omega arith)))
        ∙ sym (ap (lacks_name m) (drop-cons (names_of fs ss n) i (two_bytes 0 0) (omega (arith, names_of_length))))

-- rows

-- their names
abbrev pub names : List TextRow → List Name
names [] = []
names (r ∷ rs) = r.name ∷ names rs

-- their lengths
abbrev pub sizes : List TextRow → List ℕ
sizes [] = []
sizes (r ∷ rs) = r.size ∷ sizes rs

pub names_zip : (n : ℕ) (ns : List Name) (xs : List (ℕ × ℕ)) → length ns ≡ length xs → names (take n (zip_with text_row ns xs)) ≡ take n ns
unfolding zip_with
names_zip zero ns xs e = refl
names_zip (suc n) [] xs e = refl
names_zip (suc n) (m ∷ ns) [] e = absurd (omega arith)
names_zip (suc n) (m ∷ ns) (x ∷ xs) e = ap (λ l. m ∷ l) (names_zip n ns xs (omega arith))

pub sizes_zip : (n : ℕ) (ns : List Name) (ks ls : List ℕ) → length ns ≡ length ls → length ks ≡ length ls
    → sizes (take n (zip_with text_row ns (zip_with as_pair ks ls))) ≡ take n ls
unfolding zip_with
sizes_zip zero ns ks ls e f = refl
sizes_zip (suc n) [] ks [] e f = refl
sizes_zip (suc n) [] ks (l ∷ ls) e f = absurd (omega arith)
sizes_zip (suc n) (m ∷ ns) ks [] e f = absurd (omega arith)
sizes_zip (suc n) (m ∷ ns) [] (l ∷ ls) e f = absurd (omega arith)
sizes_zip (suc n) (m ∷ ns) (k ∷ ks) (l ∷ ls) e f = ap (λ t. l ∷ t) (sizes_zip n ns ks ls (omega arith) (omega arith))

-- the text in a row, if a name has a place
abbrev none_row : TextRow
none_row = text_row (two_bytes 0 0) (as_pair 0 0)

abbrev text_in : Name → Option ℕ → (store : List ℕ) → List TextRow → Option Text
text_in n (Some i) st rs = let r = get_or rs i none_row in Some (text n r.kind (take r.size (drop (total_length (take i (sizes rs))) st)))
text_in n None st rs = None

text_in_next : (n : Name) (p : Option ℕ) (st : List ℕ) (r : TextRow) (rs : List TextRow) → text_in n (next_text_place p) st (r ∷ rs) ≡ text_in n p (drop r.size st) rs
unfolding total_length
text_in_next n (Some i) st r rs = rw (drop-drop (total_length (take i (sizes rs))) r.size st)
text_in_next n None st r rs = refl

-- a name is looked up at its place
pub text_of_place : (n : Name) (st : List ℕ) (rs : List TextRow) → text_of n (cut st rs) ≡ text_in n (text_place n (names rs)) st rs
unfolding cut text_place text_of total_length
text_of_place n st [] = refl
text_of_place n st (r ∷ rs) = go (same_name n r.name) refl (text_of_place n (drop r.size st) rs)
  where
    first : Text
    first = text r.name r.kind (take r.size st)

    go : (t : Bool) → same_name n r.name ≡ t → text_of n (cut (drop r.size st) rs) ≡ text_in n (text_place n (names rs)) (drop r.size st) rs
        → text_of n (first ∷ cut (drop r.size st) rs) ≡ text_in n (elim t [ true ↦ Some 0 | false ↦ next_text_place (text_place n (names rs)) ]) st (r ∷ rs)
    go true e ih = found_first n first (cut (drop r.size st) rs) e ∙ ap (λ m. Some (text m r.kind (take r.size st))) (sym (same_one n r.name e))
    go false e ih = found_later n first (cut (drop r.size st) rs) e ∙ ih ∙ sym (text_in_next n (text_place n (names rs)) st r rs)

module _ (st fs ss ks ls : List ℕ) (n : ℕ) (h : TextsInvariant st fs ss ks ls n) where
  pub rows_same : length (zip_with two_bytes fs ss) ≡ length (zip_with as_pair ks ls)
  rows_same = omega (arith, zip_length two_bytes fs ss (omega arith), zip_length as_pair ks ls (omega arith))

  pub rows_long : length (zip_with text_row (zip_with two_bytes fs ss) (zip_with as_pair ks ls)) ≡ 64
  rows_long =
      omega (arith, zip_length two_bytes fs ss (omega arith), zip_length text_row (zip_with two_bytes fs ss) (zip_with as_pair ks ls) rows_same)

  pub rows_names : names (text_rows fs ss ks ls n) ≡ names_of fs ss n
  rows_names = names_zip n (zip_with two_bytes fs ss) (zip_with as_pair ks ls) rows_same

  pub rows_sizes : sizes (text_rows fs ss ks ls n) ≡ take n ls
  rows_sizes = sizes_zip n (zip_with two_bytes fs ss) ks ls (omega (arith, zip_length two_bytes fs ss (omega arith))) (omega arith)

  pub rows_length : length (text_rows fs ss ks ls n) ≡ n
  rows_length = length-take-le n (zip_with text_row (zip_with two_bytes fs ss) (zip_with as_pair ks ls)) (omega (arith, rows_long))

  -- what stands in a row
  pub rows_at : (i : ℕ) → i < n → get_or (text_rows fs ss ks ls n) i none_row ≡ text_row (two_bytes (get_or fs i 0) (get_or ss i 0)) (as_pair (get_or ks i 0) (get_or ls i 0))
  rows_at i k =
      get_or-take n (zip_with text_row (zip_with two_bytes fs ss) (zip_with as_pair ks ls)) i none_row k
      ∙ zip_at text_row (zip_with two_bytes fs ss) (zip_with as_pair ks ls) i (two_bytes 0 0) (as_pair 0 0) rows_same
      ∙ rw (zip_at two_bytes fs ss i 0 0 (omega arith), zip_at as_pair ks ls i 0 0 (omega arith))

  -- a text lies within the store
  pub text_inside : (i : ℕ) → i < n → total_length (take i ls) + get_or ls i 0 ≤ length st
  text_inside i k = omega (arith, h.inside, sum_step ls i, sum_mono ls (i + 1) n (omega arith))

  module _ (m : Name) (i : ℕ) (e : text_place m (names_of fs ss n) ≡ Some i) where
    pub found_row : i < n
    found_row = omega (arith, subst (Stands (names_of fs ss n)) e (stands m (names_of fs ss n)), names_of_length fs ss n h.names)

    -- the text of a name that is found
    pub found_text : text_of m (texts_of st fs ss ks ls n) ≡ Some (text m (kind_of (get_or ks i 0)) (take (get_or ls i 0) (drop (total_length (take i ls)) st)))
    found_text =
        text_of_place m st (text_rows fs ss ks ls n)
        ∙ rw (rows_names, e, rows_sizes, rows_at i found_row, take-take i n ls (omega (arith, found_row)))

  -- there is none of a name that is not found
  pub not_text : (m : Name) → text_place m (names_of fs ss n) ≡ None → text_of m (texts_of st fs ss ks ls n) ≡ None
  not_text m e = text_of_place m st (text_rows fs ss ks ls n) ∙ rw (rows_names, e)
