-- Whether lent columns are a table of texts: as tests, with the laws that they hold exactly where the table's invariants do. Assumes nothing.
use Rattle.std.specs.Prelude.{◌≡◌, refl, Bool, true, false, not, ◌&&◌, List, [], ◌∷◌, ℕ, zero, suc, ◌≤◌, leb, ltb, length, take, drop, None}
use Rattle.std.proofs.Common.{sym, ap, ◌∙◌, arith, leb-true, le-leb, ltb-true, ltb-false}
use Rattle.std.proofs.lemmas.Bool.{false≢true}
use Rattle.rules.specs.declared.Name.{Name}
use Rattle.rules.specs.Bytes.{first_where}
use Rattle.rules.specs.Names.{same_name, two_bytes}
use Rattle.rules.specs.Laws.Refusals.{both}
use Rattle.rules.specs.Texts.{text, text_of}
use Rattle.rules.specs.Laws.Texts.{Distinct, found_later, none_first, none_later}
use Rattle.texts.specs.Table.Table.{zip_with, TextRow, text_row, as_pair, names_of, text_rows, total_length, cut, texts_of, TextsInvariant}
use Rattle.texts.specs.Table.Changes.{lesser, room_of}

-- the columns of names have all their rows
pub record NameColumns (firsts seconds : List ℕ) : Type 0 where
  pub firsts_long : length firsts ≡ 64
  pub seconds_long : length seconds ≡ 64

-- at most 64 texts, and no more than 8,192 bytes of them, all within a store of so many
abbrev pub is_text_table : (store : ℕ) → (lengths : List ℕ) → (count : ℕ) → Bool
is_text_table s ls n = leb n 64 && leb (total_length (take n ls)) (room_of s)

-- both parts of a test hold
and_true : (a b : Bool) → a ≡ true → b ≡ true → (a && b) ≡ true
and_true a b e f = rw (e, f)

-- the room is no more than the store, and no more than 8,192
pub room_least : (s : ℕ) → (room_of s ≤ s) × (room_of s ≤ 8192)
room_least s = go (ltb s 8192) refl
  where
    go : (t : Bool) → ltb s 8192 ≡ t → (lesser t s 8192 ≤ s) × (lesser t s 8192 ≤ 8192)
    go true e = let h = ltb-true s 8192 e in (omega arith, omega arith)
    go false e = let h = ltb-false s 8192 e in (omega arith, omega arith)

room_most : (s k : ℕ) → k ≤ s → k ≤ 8192 → k ≤ room_of s
room_most s k a b = go (ltb s 8192)
  where
    go : (t : Bool) → k ≤ lesser t s 8192
    go true = a
    go false = b

module _ (st fs ss ks ls : List ℕ) (n : ℕ) where
  -- The texts of columns that pass the test lie within the store.
  pub texts_sound : NameColumns fs ss → length ks ≡ 64 → length ls ≡ 64 → is_text_table (length st) ls n ≡ true → TextsInvariant st fs ss ks ls n
  texts_sound c k l h =
      let t = both (leb n 64) (leb (total_length (take n ls)) (room_of (length st))) h in
      record {
        names = record { firsts_long = c.firsts_long; seconds_long = c.seconds_long; few = leb-true n 64 t.0 };
        kinds_long = k;
        lengths_long = l;
        inside = omega (arith, leb-true (total_length (take n ls)) (room_of (length st)) t.1, (room_least (length st)).0);
      }

  -- They are at most 8,192 bytes.
  pub table_short : is_text_table (length st) ls n ≡ true → total_length (take n ls) ≤ 8192
  table_short h =
      let t = both (leb n 64) (leb (total_length (take n ls)) (room_of (length st))) h in
      omega (arith, leb-true (total_length (take n ls)) (room_of (length st)) t.1, (room_least (length st)).1)

  -- Columns whose texts lie within the store, and are at most 8,192 bytes, pass it.
  pub texts_complete : TextsInvariant st fs ss ks ls n → total_length (take n ls) ≤ 8192 → is_text_table (length st) ls n ≡ true
  texts_complete t h =
      and_true (leb n 64) (leb (total_length (take n ls)) (room_of (length st))) (le-leb n 64 t.names.few)
      (le-leb (total_length (take n ls)) (room_of (length st)) (room_most (length st) (total_length (take n ls)) t.inside h))

-- whether none of some names is this one
unfoldable pub lacks_name : Name → List Name → Bool
lacks_name n [] = true
lacks_name n (m ∷ l) = not (same_name n m) && lacks_name n l

-- whether no two of some names are the same
unfoldable pub all_distinct : List Name → Bool
all_distinct [] = true
all_distinct (n ∷ l) = lacks_name n l && all_distinct l

-- no two of at most 64 texts have one name
abbrev pub no_name_twice : (firsts seconds : List ℕ) → (count : ℕ) → Bool
no_name_twice fs ss n = leb n 64 && all_distinct (names_of fs ss n)

not_true : (b : Bool) → not b ≡ true → b ≡ false
not_true true h = absurd (false≢true h)
not_true false h = refl

-- the names of rows
abbrev row_names : List TextRow → List Name
row_names [] = []
row_names (r ∷ rs) = r.name ∷ row_names rs

lacks_sound : (n : Name) (st : List ℕ) (rs : List TextRow) → lacks_name n (row_names rs) ≡ true → text_of n (cut st rs) ≡ None
unfolding lacks_name cut text_of first_where
lacks_sound n st [] h = refl
lacks_sound n st (r ∷ rs) h =
    let b = both (not (same_name n r.name)) (lacks_name n (row_names rs)) h in
    found_later n (text r.name r.kind (take r.size st)) (cut (drop r.size st) rs) (not_true (same_name n r.name) b.0)
    ∙ lacks_sound n (drop r.size st) rs b.1

lacks_complete : (n : Name) (st : List ℕ) (rs : List TextRow) → text_of n (cut st rs) ≡ None → lacks_name n (row_names rs) ≡ true
unfolding lacks_name cut
lacks_complete n st [] h = refl
lacks_complete n st (r ∷ rs) h =
    let t = text r.name r.kind (take r.size st) in let ts = cut (drop r.size st) rs in
    and_true (not (same_name n r.name)) (lacks_name n (row_names rs)) (ap not (none_first n t ts h))
    (lacks_complete n (drop r.size st) rs (none_later n t ts h))

distinct_sound : (st : List ℕ) (rs : List TextRow) → all_distinct (row_names rs) ≡ true → Distinct (cut st rs)
unfolding all_distinct cut
distinct_sound st [] h = tt
distinct_sound st (r ∷ rs) h =
    let b = both (lacks_name r.name (row_names rs)) (all_distinct (row_names rs)) h in
    (lacks_sound r.name (drop r.size st) rs b.0, distinct_sound (drop r.size st) rs b.1)

distinct_complete : (st : List ℕ) (rs : List TextRow) → Distinct (cut st rs) → all_distinct (row_names rs) ≡ true
unfolding all_distinct cut
distinct_complete st [] h = refl
distinct_complete st (r ∷ rs) h =
    and_true (lacks_name r.name (row_names rs)) (all_distinct (row_names rs)) (lacks_complete r.name (drop r.size st) rs h.0)
    (distinct_complete (drop r.size st) rs h.1)

row_names_lem : (n : ℕ) (ns : List Name) (xs : List (ℕ × ℕ)) → length ns ≡ length xs → row_names (take n (zip_with text_row ns xs)) ≡ take n ns
unfolding zip_with
row_names_lem zero ns xs e = refl
row_names_lem (suc n) [] xs e = refl
row_names_lem (suc n) (m ∷ ns) [] e = absurd (omega arith)
row_names_lem (suc n) (m ∷ ns) (x ∷ xs) e = ap (λ l. m ∷ l) (row_names_lem n ns xs (omega arith))

zip_long : {A B C : Type 0} (f : A → B → C) (xs : List A) (ys : List B) → length xs ≡ length ys → length (zip_with f xs ys) ≡ length xs
unfolding zip_with
zip_long f [] ys e = refl
zip_long f (x ∷ xs) [] e = absurd (omega arith)
zip_long f (x ∷ xs) (y ∷ ys) e = ap suc (zip_long f xs ys (omega arith))

module _ (st fs ss ks ls : List ℕ) (n : ℕ) (h : TextsInvariant st fs ss ks ls n) where
  names_are : row_names (text_rows fs ss ks ls n) ≡ names_of fs ss n
  names_are =
      row_names_lem n (zip_with two_bytes fs ss) (zip_with as_pair ks ls)
      (omega (arith, zip_long two_bytes fs ss (omega arith), zip_long as_pair ks ls (omega arith)))

  -- No two texts of columns that pass the test have one name.
  pub names_sound : no_name_twice fs ss n ≡ true → Distinct (texts_of st fs ss ks ls n)
  names_sound e =
      distinct_sound st (text_rows fs ss ks ls n)
      (ap all_distinct names_are ∙ (both (leb n 64) (all_distinct (names_of fs ss n)) e).1)

  -- The columns of texts of which no two have one name pass it.
  pub names_complete : Distinct (texts_of st fs ss ks ls n) → no_name_twice fs ss n ≡ true
  names_complete d =
      and_true (leb n 64) (all_distinct (names_of fs ss n)) (le-leb n 64 h.names.few)
      (ap all_distinct (sym names_are) ∙ distinct_complete st (text_rows fs ss ks ls n) d)
