-- Laws of changes: texts that are taken out, put behind the last, or left as they are. Assumes nothing.
use mathlib.Core.Path.{◌≡◌, refl, sym, ap, ◌∙◌}
use mathlib.Core.Bool.{Bool, true, false}
use mathlib.Core.List.{List, [], ◌∷◌, ◌++◌}
use Rattle.std.specs.Prelude.{Option, None, Some}
use Prim.Native.Nat.{ℕ, zero, suc, ◌+◌, ◌-◌, ◌≤◌, ◌<◌}
use native.Mathlib.Numerals.{add-one}
use native.Mathlib.Omega.{arith}
use lib.ListN.{length, take, drop, get_or, take-append-drop, length-drop}
use lib.Seq.{drop-drop, length-take-le, get_or-take, take-take, length-paste, paste}
use Rattle.rules.specs.declared.Name.{Name}
use Rattle.rules.specs.Names.{two_bytes, same_name}
use Rattle.rules.specs.Texts.{Text, text, remove, live}
use Rattle.rules.specs.Laws.Texts.{remove_first, remove_later}
use Rattle.texts.specs.Table.Table.{zip_with, TextRow, text_row, as_pair, names_of, text_rows, total_length, cut, texts_of, TextsInvariant}
use Rattle.texts.specs.Table.Places.{next_text_place, text_place}
use Rattle.texts.specs.Table.Changes.{without, closed_up, TakenOut}
use Rattle.texts.proofs.table.Lists.{zip_closed, closed_rows, closed_length, front_same, rest_same, paste_front, paste_part, paste_past, sum_append, sum_mono, sum_without}
use Rattle.texts.proofs.table.Laws.{names, sizes, rows_same, rows_long, rows_names, rows_sizes, rows_length}

-- the texts of a store are those of its front
pub cut_front : (rs : List TextRow) (st st' : List ℕ) → take (total_length (sizes rs)) st ≡ take (total_length (sizes rs)) st' → cut st rs ≡ cut st' rs
unfolding cut total_length
cut_front [] st st' e = refl
cut_front (r ∷ rs) st st' e =
    rw (front_same st st' r.size (total_length (sizes rs)) e, cut_front rs (drop r.size st) (drop r.size st') (rest_same st st' r.size (total_length (sizes rs)) e))

-- a text less, with the later ones moved down to its place
pub cut_without : (rs : List TextRow) (i : ℕ) (st st' : List ℕ) → i < length rs
    → take (total_length (take i (sizes rs))) st' ≡ take (total_length (take i (sizes rs))) st
    → take (total_length (drop (suc i) (sizes rs))) (drop (total_length (take i (sizes rs))) st') ≡ take (total_length (drop (suc i) (sizes rs))) (drop (total_length (take (suc i) (sizes rs))) st)
    → cut st' (without i rs) ≡ without i (cut st rs)
unfolding cut total_length
cut_without [] i st st' h e f = absurd (omega arith)
cut_without (r ∷ rs) zero st st' h e f =
    let z : r.size + 0 ≡ r.size = omega arith in
    cut_front rs st' (drop r.size st) (rw z at f)
cut_without (r ∷ rs) (suc i) st st' h e f =
    let a : ℕ = total_length (take i (sizes rs)) in let b : ℕ = total_length (take (suc i) (sizes rs)) in
    rw (front_same st' st r.size a e)
    (ap (λ l. text r.name r.kind (take r.size st) ∷ l)
    (cut_without rs i (drop r.size st) (drop r.size st') (omega arith) (rest_same st' st r.size a e) (rw (drop-drop a r.size st', drop-drop b r.size st) f)))

-- a text more, behind the last
pub cut_end : (rs : List TextRow) (r : TextRow) (st : List ℕ) → cut st (rs ++ r ∷ []) ≡ cut st rs ++ text r.name r.kind (take r.size (drop (total_length (sizes rs)) st)) ∷ []
unfolding cut total_length
cut_end [] r st = refl
cut_end (q ∷ rs) r st =
    ap (λ l. text q.name q.kind (take q.size st) ∷ l) (cut_end rs r (drop q.size st) ∙ rw (drop-drop (total_length (sizes rs)) q.size st))

pub cut_length : (rs : List TextRow) (st : List ℕ) → length (cut st rs) ≡ length rs
unfolding cut
cut_length [] st = refl
cut_length (r ∷ rs) st = ap suc (cut_length rs (drop r.size st))

pub cut_live : (rs : List TextRow) (st : List ℕ) → total_length (sizes rs) ≤ length st → live (cut st rs) ≡ total_length (sizes rs)
unfolding cut total_length live
cut_live [] st h = refl
cut_live (r ∷ rs) st h =
    omega (arith, length-take-le r.size st (omega arith), cut_live rs (drop r.size st) (omega (arith, length-drop r.size st)))

-- what is left of texts without the one at a name's place
abbrev remove_in : Option ℕ → List Text → List Text
remove_in (Some i) ts = without i ts
remove_in None ts = ts

remove_in_next : (p : Option ℕ) (t : Text) (ts : List Text) → remove_in (next_text_place p) (t ∷ ts) ≡ t ∷ remove_in p ts
remove_in_next (Some i) t ts = refl
remove_in_next None t ts = refl

-- a name is removed at its place
pub remove_place : (n : Name) (st : List ℕ) (rs : List TextRow) → remove n (cut st rs) ≡ remove_in (text_place n (names rs)) (cut st rs)
unfolding cut text_place remove
remove_place n st [] = refl
remove_place n st (r ∷ rs) = go (same_name n r.name) refl (remove_place n (drop r.size st) rs)
  where
    first : Text
    first = text r.name r.kind (take r.size st)

    go : (t : Bool) → same_name n r.name ≡ t → remove n (cut (drop r.size st) rs) ≡ remove_in (text_place n (names rs)) (cut (drop r.size st) rs)
        → remove n (first ∷ cut (drop r.size st) rs) ≡ remove_in (elim t [ true ↦ Some 0 | false ↦ next_text_place (text_place n (names rs)) ]) (first ∷ cut (drop r.size st) rs)
    go true e ih = remove_first n first (cut (drop r.size st) rs) e
    go false e ih =
        remove_later n first (cut (drop r.size st) rs) e ∙ ap (λ l. first ∷ l) ih
        ∙ sym (remove_in_next (text_place n (names rs)) first (cut (drop r.size st) rs))

-- the sum of what follows
sum_rest : (l : List ℕ) (a : ℕ) → total_length (drop a l) ≡ total_length l - total_length (take a l)
sum_rest l a = omega (arith, sum_append (take a l) (drop a l), ap total_length (take-append-drop a l))

module _ (st fs ss ks ls : List ℕ) (n : ℕ) (h : TextsInvariant st fs ss ks ls n) where
  pub texts_length : length (texts_of st fs ss ks ls n) ≡ n
  texts_length = cut_length (text_rows fs ss ks ls n) st ∙ rows_length st fs ss ks ls n h

  pub texts_live : live (texts_of st fs ss ks ls n) ≡ total_length (take n ls)
  texts_live =
      let e = rows_sizes st fs ss ks ls n h in
      cut_live (text_rows fs ss ks ls n) st (rw e h.inside) ∙ ap total_length e

  -- the texts of a store with the same live bytes
  pub texts_same : (st' : List ℕ) → take (total_length (take n ls)) st' ≡ take (total_length (take n ls)) st → texts_of st' fs ss ks ls n ≡ texts_of st fs ss ks ls n
  texts_same st' e = cut_front (text_rows fs ss ks ls n) st' st (rw (rows_sizes st fs ss ks ls n h) e)

  pub lies_same : (st' : List ℕ) → length st' ≡ length st → TextsInvariant st' fs ss ks ls n
  lies_same st' e = record { names = h.names; kinds_long = h.kinds_long; lengths_long = h.lengths_long; inside = omega (arith, h.inside) }

  -- what is left of the texts, if a name is found, and if not
  pub remove_found : (m : Name) (i : ℕ) → text_place m (names_of fs ss n) ≡ Some i → remove m (texts_of st fs ss ks ls n) ≡ without i (texts_of st fs ss ks ls n)
  remove_found m i e = remove_place m st (text_rows fs ss ks ls n) ∙ rw (rows_names st fs ss ks ls n h, e)

  pub remove_not : (m : Name) → text_place m (names_of fs ss n) ≡ None → remove m (texts_of st fs ss ks ls n) ≡ texts_of st fs ss ks ls n
  remove_not m e = remove_place m st (text_rows fs ss ks ls n) ∙ rw (rows_names st fs ss ks ls n h, e)

  -- the text in a row is taken out
  module _ (i : ℕ) (k : i < n) where
    abbrev to : ℕ
    to = total_length (take i ls)

    abbrev from : ℕ
    from = total_length (take (i + 1) ls)

    abbrev moved : ℕ
    moved = total_length (take n ls) - total_length (take (i + 1) ls)

    pub starts_rise : (total_length (take i ls) ≤ total_length (take (i + 1) ls)) × (total_length (take (i + 1) ls) ≤ total_length (take n ls))
    starts_rise = (sum_mono ls i (i + 1) (omega arith), sum_mono ls (i + 1) n (omega arith))

    moved_fits : moved ≤ length (drop from st)
    moved_fits = omega (arith, starts_rise, h.inside, length-drop from st)

    abbrev shut : List ℕ → List ℕ
    shut l = closed_up l i (n - 1 - i)

    rows_out : text_rows (shut fs) (shut ss) (shut ks) (shut ls) (n - 1) ≡ without i (text_rows fs ss ks ls n)
    rows_out =
        rw (
          zip_closed two_bytes fs ss i (n - 1 - i) (omega arith),
          zip_closed as_pair ks ls i (n - 1 - i) (omega arith),
          zip_closed text_row (zip_with two_bytes fs ss) (zip_with as_pair ks ls) i (n - 1 - i) (rows_same st fs ss ks ls n h),
        )
        (closed_rows (zip_with text_row (zip_with two_bytes fs ss) (zip_with as_pair ks ls)) i n k (omega (arith, rows_long st fs ss ks ls n h, h.names.few)))

    sizes_out : total_length (take (n - 1) (shut ls)) + get_or ls i 0 ≡ total_length (take n ls)
    sizes_out =
        rw (closed_rows ls i n k (omega (arith, h.names.few, h.lengths_long)), ← get_or-take n ls i 0 k) (sum_without (take n ls) i)

    pub taken_out : TakenOut st fs ss ks ls n i (paste st (total_length (take i ls)) (drop (total_length (take (i + 1) ls)) st) (total_length (take n ls) - total_length (take (i + 1) ls)))
        (closed_up fs i (n - 1 - i)) (closed_up ss i (n - 1 - i)) (closed_up ks i (n - 1 - i)) (closed_up ls i (n - 1 - i))
    taken_out =
        let st' = paste st to (drop from st) moved in
        let rs = text_rows fs ss ks ls n in
        let z = rows_sizes st fs ss ks ls n h in
        let t : to ≤ length st = omega (arith, starts_rise, h.inside) in
        let a : take i (take n ls) ≡ take i ls = take-take i n ls (omega arith) in
        let b : take (suc i) (take n ls) ≡ take (i + 1) ls = take-take (suc i) n ls (omega arith) ∙ ap (λ j. take j ls) (sym (add-one i)) in
        let d : total_length (drop (suc i) (take n ls)) ≡ moved = sum_rest (take n ls) (suc i) ∙ rw b in
        let l : length st' ≡ length st = length-paste st to (drop from st) moved (omega (arith, starts_rise, h.inside)) moved_fits in
        record {
          is = rw rows_out
              (cut_without rs i st st' (omega (arith, rows_length st fs ss ks ls n h)) (rw (z, a) (paste_front st (drop from st) to moved t moved_fits))
              (rw (z, a, b, d) (paste_part st (drop from st) to moved t moved_fits)));
          lies = record {
            names = record { firsts_long = closed_length fs i (n - 1 - i) ∙ h.names.firsts_long; seconds_long = closed_length ss i (n - 1 - i) ∙ h.names.seconds_long; few = omega (arith, h.names.few) };
            kinds_long = closed_length ks i (n - 1 - i) ∙ h.kinds_long;
            lengths_long = closed_length ls i (n - 1 - i) ∙ h.lengths_long;
            inside = omega (arith, sizes_out, h.inside, l);
          };
          size = sizes_out;
          long = l;
          past = λ m p. paste_past st (drop from st) to moved t moved_fits m (omega (arith, starts_rise));
        }
