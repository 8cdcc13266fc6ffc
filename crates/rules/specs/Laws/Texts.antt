-- Laws of the texts' table: what was defined is found, what was removed is not, every other name is found as before, and the limits hold. Assumes nothing.
use Rattle.std.specs.Prelude.{◌≡◌, refl, Bool, true, false, ◌&&◌, List, [], ◌∷◌, ◌++◌, ℕ, suc, ◌+◌, ◌≤◌, leb, ltb, length, Option, None, Some}
use Rattle.std.proofs.Common.{sym, ap, ◌∙◌, arith}
use Rattle.rules.specs.declared.Name.{Name}
use Rattle.rules.specs.declared.Kind.TheVariants.{Macro, String}
use Rattle.rules.specs.Bytes.{first_where}
use Rattle.rules.specs.Names.{same_name}
use Rattle.rules.specs.Refusals.{value}
use Rattle.rules.specs.Laws.Refusals.{judge_value}
use Rattle.rules.specs.Laws.Names.{same_self, same_one, same_swap}
use Rattle.rules.specs.Texts.{Text, text, text_of, remove, live, define_string_in, open_macro, close_macro}

-- No two texts have one name.
abbrev pub Distinct : List Text → Type 0
Distinct [] = Unit
Distinct (t ∷ ts) = (text_of t.name ts ≡ None) × Distinct ts

-- A text of the name is found.
pub found_first : (n : Name) (t : Text) (ts : List Text) → same_name n t.name ≡ true → text_of n (t ∷ ts) ≡ Some t
unfolding text_of first_where
found_first n t ts h = rw (text_of, first_where, h)

-- A text of another name is passed over.
pub found_later : (n : Name) (t : Text) (ts : List Text) → same_name n t.name ≡ false → text_of n (t ∷ ts) ≡ text_of n ts
unfolding text_of first_where
found_later n t ts h = rw (text_of, first_where, h)

-- Where a name is not found, the first text has another.
pub none_first : (n : Name) (t : Text) (ts : List Text) → text_of n (t ∷ ts) ≡ None → same_name n t.name ≡ false
none_first n t ts h = go (same_name n t.name) refl
  where
    go : (b : Bool) → same_name n t.name ≡ b → b ≡ false
    go true e = let f = found_first n t ts e in let z : ◌≡◌ {A = ℕ} 0 1 = cc in absurd (omega arith)
    go false e = refl

-- Nor do the later texts have it.
pub none_later : (n : Name) (t : Text) (ts : List Text) → text_of n (t ∷ ts) ≡ None → text_of n ts ≡ None
none_later n t ts h = sym (found_later n t ts (none_first n t ts h)) ∙ h

-- A text of the name goes.
pub remove_first : (n : Name) (t : Text) (ts : List Text) → same_name n t.name ≡ true → remove n (t ∷ ts) ≡ ts
unfolding remove
remove_first n t ts h = rw (remove, h)

-- A text of another name stays.
pub remove_later : (n : Name) (t : Text) (ts : List Text) → same_name n t.name ≡ false → remove n (t ∷ ts) ≡ t ∷ remove n ts
unfolding remove
remove_later n t ts h = rw (remove, h)

-- A name that was removed is not found.
pub gone_remove : (n : Name) (ts : List Text) → Distinct ts → text_of n (remove n ts) ≡ None
unfolding remove text_of
gone_remove n [] h = refl
gone_remove n (t ∷ ts) h = go (same_name n t.name) refl (gone_remove n ts h.1)
  where
    go : (b : Bool) → same_name n t.name ≡ b → text_of n (remove n ts) ≡ None → text_of n (remove n (t ∷ ts)) ≡ None
    go true e ih = rw (remove_first n t ts e, same_one n t.name e) h.0
    go false e ih = rw (remove_later n t ts e, found_later n t (remove n ts) e) ih

-- Every name but the one removed is found as before.
pub kept_remove : (m n : Name) (ts : List Text) → same_name m n ≡ false → text_of m (remove n ts) ≡ text_of m ts
unfolding remove
kept_remove m n [] d = refl
kept_remove m n (t ∷ ts) d = go (same_name n t.name) (same_name m t.name) refl refl (kept_remove m n ts d)
  where
    go : (a b : Bool) → same_name n t.name ≡ a → same_name m t.name ≡ b → text_of m (remove n ts) ≡ text_of m ts
        → text_of m (remove n (t ∷ ts)) ≡ text_of m (t ∷ ts)
    go true b e f ih = rw (remove_first n t ts e, found_later m t ts (rw (same_one n t.name e) at d))
    go false true e f ih = rw (remove_later n t ts e, found_first m t (remove n ts) f, found_first m t ts f)
    go false false e f ih = rw (remove_later n t ts e, found_later m t (remove n ts) f, found_later m t ts f) ih

-- If no text has the name, nothing is removed.
pub remove_none : (n : Name) (ts : List Text) → text_of n ts ≡ None → remove n ts ≡ ts
unfolding remove
remove_none n [] h = refl
remove_none n (t ∷ ts) h = rw (remove_later n t ts (none_first n t ts h), remove_none n ts (none_later n t ts h))

-- A search that goes forwards: a name that the first texts do not have is looked for in the others.
pub found_on : (n : Name) (a b : List Text) → text_of n a ≡ None → text_of n (a ++ b) ≡ text_of n b
found_on n [] b h = refl
found_on n (u ∷ a) b h = rw (found_later n u (a ++ b) (none_first n u a h)) (found_on n a b (none_later n u a h))

-- The first text of the name is removed, and it alone.
pub remove_at : (n : Name) (a b : List Text) (t : Text) → text_of n a ≡ None → same_name n t.name ≡ true → remove n (a ++ t ∷ b) ≡ a ++ b
remove_at n [] b t h e = remove_first n t b e
remove_at n (u ∷ a) b t h e = rw (remove_later n u (a ++ t ∷ b) (none_first n u a h)) (ap (λ l. u ∷ l) (remove_at n a b t (none_later n u a h) e))

-- A text at the end is found if none before it has its name.
pub found_end : (t : Text) (ts : List Text) → text_of t.name ts ≡ None → text_of t.name (ts ++ t ∷ []) ≡ Some t
found_end t ts h = found_on t.name ts (t ∷ []) h ∙ found_first t.name t [] (same_self t.name)

-- Every name but that of the text at the end is found as before.
pub kept_end : (m : Name) (t : Text) (ts : List Text) → same_name m t.name ≡ false → text_of m (ts ++ t ∷ []) ≡ text_of m ts
kept_end m t [] d = found_later m t [] d
kept_end m t (u ∷ us) d = go (same_name m u.name) refl (kept_end m t us d)
  where
    go : (b : Bool) → same_name m u.name ≡ b → text_of m (us ++ t ∷ []) ≡ text_of m us → text_of m (u ∷ (us ++ t ∷ [])) ≡ text_of m (u ∷ us)
    go true e ih = rw (found_first m u (us ++ t ∷ []) e, found_first m u us e)
    go false e ih = rw (found_later m u (us ++ t ∷ []) e, found_later m u us e) ih

-- A name that is not found is not found after a remove.
pub none_remove : (m n : Name) (ts : List Text) → text_of m ts ≡ None → text_of m (remove n ts) ≡ None
unfolding remove
none_remove m n [] h = h
none_remove m n (t ∷ ts) h = go (same_name n t.name) refl (none_remove m n ts (none_later m t ts h))
  where
    go : (b : Bool) → same_name n t.name ≡ b → text_of m (remove n ts) ≡ None → text_of m (remove n (t ∷ ts)) ≡ None
    go true e ih = rw (remove_first n t ts e) (none_later m t ts h)
    go false e ih = rw (remove_later n t ts e, found_later m t (remove n ts) (none_first m t ts h)) ih

-- `remove` keeps the names distinct.
pub distinct_remove : (n : Name) (ts : List Text) → Distinct ts → Distinct (remove n ts)
unfolding remove
distinct_remove n [] h = tt
distinct_remove n (t ∷ ts) h = go (same_name n t.name) refl (distinct_remove n ts h.1)
  where
    go : (b : Bool) → same_name n t.name ≡ b → Distinct (remove n ts) → Distinct (remove n (t ∷ ts))
    go true e ih = rw (remove_first n t ts e) h.1
    go false e ih = rw (remove_later n t ts e) (none_remove t.name n ts h.0, ih)

-- So does a new name at the end.
pub distinct_end : (t : Text) (ts : List Text) → Distinct ts → text_of t.name ts ≡ None → Distinct (ts ++ t ∷ [])
unfolding text_of first_where
distinct_end t [] d h = (refl, tt)
distinct_end t (u ∷ us) d h =
    (kept_end u.name t us (same_swap t.name u.name (none_first t.name u us h)) ∙ d.0, distinct_end t us d.1 (none_later t.name u us h))

-- A ds that is not refused leaves its string behind the other texts.
pub define_is : (room : ℕ) (n : Name) (l : List ℕ) (ts us : List Text) → define_string_in room n l ts ≡ value us → us ≡ remove n ts ++ text n String l ∷ []
unfolding define_string_in
define_is room n l ts us h = sym (judge_value (ltb (length (remove n ts)) 64 && leb (live (remove n ts) + length l) room) 11 (remove n ts ++ text n String l ∷ []) us h).1

-- A de that is not refused leaves the other texts.
pub open_is : (n : Name) (ts us : List Text) → open_macro n ts ≡ value us → us ≡ remove n ts
unfolding open_macro
open_is n ts us h = sym (judge_value (ltb (length (remove n ts)) 64) 11 (remove n ts) us h).1

-- Sanity: after a ds its string is found under its name.
pub found_define : (room : ℕ) (n : Name) (l : List ℕ) (ts us : List Text) → Distinct ts → define_string_in room n l ts ≡ value us → text_of n us ≡ Some (text n String l)
found_define room n l ts us d h = rw (define_is room n l ts us h) (found_end (text n String l) (remove n ts) (gone_remove n ts d))

-- After a ds every other name is found as before.
pub kept_define : (room : ℕ) (m n : Name) (l : List ℕ) (ts us : List Text) → same_name m n ≡ false → define_string_in room n l ts ≡ value us → text_of m us ≡ text_of m ts
kept_define room m n l ts us e h = rw (define_is room n l ts us h) (kept_end m (text n String l) (remove n ts) e ∙ kept_remove m n ts e)

-- A ds keeps the names distinct.
pub distinct_define : (room : ℕ) (n : Name) (l : List ℕ) (ts us : List Text) → Distinct ts → define_string_in room n l ts ≡ value us → Distinct us
distinct_define room n l ts us d h = rw (define_is room n l ts us h) (distinct_end (text n String l) (remove n ts) (distinct_remove n ts d) (gone_remove n ts d))

-- After a de its name is not found: "A macro exists once closed".
pub gone_open : (n : Name) (ts us : List Text) → Distinct ts → open_macro n ts ≡ value us → text_of n us ≡ None
gone_open n ts us d h = rw (open_is n ts us h) (gone_remove n ts d)

-- After a de every other name is found as before.
pub kept_open : (m n : Name) (ts us : List Text) → same_name m n ≡ false → open_macro n ts ≡ value us → text_of m us ≡ text_of m ts
kept_open m n ts us e h = rw (open_is n ts us h) (kept_remove m n ts e)

-- A de keeps the names distinct.
pub distinct_open : (n : Name) (ts us : List Text) → Distinct ts → open_macro n ts ≡ value us → Distinct us
distinct_open n ts us d h = rw (open_is n ts us h) (distinct_remove n ts d)

-- Sanity: a closed macro is found under its name, if no other text has it.
pub found_close : (n : Name) (body : List ℕ) (ts : List Text) → text_of n ts ≡ None → text_of n (close_macro n body ts) ≡ Some (text n Macro body)
found_close n body ts h = found_end (text n Macro body) ts h

-- A closed macro keeps the names distinct, if no other text has its name.
pub distinct_close : (n : Name) (body : List ℕ) (ts : List Text) → Distinct ts → text_of n ts ≡ None → Distinct (close_macro n body ts)
distinct_close n body ts d h = distinct_end (text n Macro body) ts d h

-- The live text of two lists is that of each.
pub live_append : (a b : List Text) → live (a ++ b) ≡ live a + live b
unfolding live
live_append [] b = omega arith
live_append (t ∷ a) b = omega (arith, live_append a b)

-- `remove` takes the bytes of the text found away from the live text.
pub live_remove : (n : Name) (ts : List Text) (t : Text) → text_of n ts ≡ Some t → live (remove n ts) + length t.bytes ≡ live ts
unfolding live text_of first_where remove
live_remove n [] t h = let z : ◌≡◌ {A = ℕ} 0 1 = cc in absurd (omega arith)
live_remove n (u ∷ us) t h = go (same_name n u.name) refl (live_remove n us t)
  where
    go : (b : Bool) → same_name n u.name ≡ b → (text_of n us ≡ Some t → live (remove n us) + length t.bytes ≡ live us)
        → live (remove n (u ∷ us)) + length t.bytes ≡ live (u ∷ us)
    go true e ih = let f = found_first n u us e in let g : u ≡ t = cc in rw (remove_first n u us e) (omega (arith, ap (λ x. length x.bytes) g))
    go false e ih = let f = ih (sym (found_later n u us e) ∙ h) in rw (remove_later n u us e) (omega arith)

-- `remove` adds no text.
pub remove_shorter : (n : Name) (ts : List Text) → length (remove n ts) ≤ length ts
unfolding remove
remove_shorter n [] = omega arith
remove_shorter n (t ∷ ts) = go (same_name n t.name) refl (remove_shorter n ts)
  where
    go : (b : Bool) → same_name n t.name ≡ b → length (remove n ts) ≤ length ts → length (remove n (t ∷ ts)) ≤ suc (length ts)
    go true e ih = rw (remove_first n t ts e) (omega arith)
    go false e ih = rw (remove_later n t ts e) (omega arith)

-- `remove` adds no live text.
pub remove_lighter : (n : Name) (ts : List Text) → live (remove n ts) ≤ live ts
remove_lighter n ts = go (text_of n ts) refl
  where
    go : (o : Option Text) → text_of n ts ≡ o → live (remove n ts) ≤ live ts
    go None e = rw (remove_none n ts e) (omega arith)
    go (Some t) e = omega (arith, live_remove n ts t e)

-- "11: .. 65th name .. or live text past 8,192 bytes": the limits of the table.
abbrev pub TextsWithin : List Text → Type 0
TextsWithin ts = (length ts ≤ 64) × (live ts ≤ 8192)

-- `remove` keeps the limits.
pub within_remove : (n : Name) (ts : List Text) → TextsWithin ts → TextsWithin (remove n ts)
within_remove n ts w = (omega (arith, remove_shorter n ts), omega (arith, remove_lighter n ts))
