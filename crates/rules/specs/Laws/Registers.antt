-- Laws of the registers' table: what was put is found under its name, every other name is found as before, and the table stays in order and within its bounds. Assumes nothing.
use Rattle.std.specs.Prelude.{◌≡◌, refl, Bool, true, false, ◌&&◌, List, [], ◌∷◌, suc, ◌≤◌, ◌<◌, eqb, ltb, leb, length, ℤ, pos, nat_abs, ◌+ℤ◌, ◌-ℤ◌, Option, None, Some}
use Rattle.std.proofs.Common.{sym, ap, ◌∙◌, subst, arith, eqb-true, ltb-true, ltb-false}
use Rattle.std.proofs.lemmas.Bool.{eqb-false}
use Rattle.rules.specs.declared.Name.{Name}
use Rattle.rules.specs.Names.{same_name, Order, earlier, same, later, order, order_by}
use Rattle.rules.specs.Laws.Names.{same_self}
use Rattle.rules.specs.Bytes.{first_where, entry_of}
use Rattle.rules.specs.Laws.Tables.{Each, OfSome, first_each}
use Rattle.rules.specs.Laws.Refusals.{Every, every_value, every_refused, every, every_of, judge_every}
use Rattle.rules.specs.Numbers.{within}
use Rattle.rules.specs.Laws.Numbers.{Bounded, within_bounded}
use Rattle.rules.specs.Registers.{register, register_of, put, set_value, Seen, read_only, shown, step_to, refer_by, step_register}
use Rattle.rules.specs.declared.Register.{Register}
use Rattle.rules.specs.declared.Turn.{Turn}
use Rattle.rules.specs.declared.Turn.TheVariants.{Still, Up, Down}

-- n stands before m: by its first byte, or by its second where the first are the same
abbrev pub Before : Name → Name → Type 0
Before n m = (n.first ≤ m.first) × (m.first ≤ n.first → n.second < m.second)

-- what an order of two names means
abbrev pub Means : Order → Name → Name → Type 0
Means earlier n m = Before n m
Means same n m = n ≡ m
Means later n m = Before m n

-- the order of two names is what it means
pub means : (n m : Name) → Means (order n m) n m
means n m = go (ltb n.first m.first) (eqb n.first m.first) (ltb n.second m.second) (eqb n.second m.second) refl refl refl refl
  where
    go : (l e k f : Bool) → ltb n.first m.first ≡ l → eqb n.first m.first ≡ e → ltb n.second m.second ≡ k → eqb n.second m.second ≡ f
        → Means (order_by l e k f) n m
    go true e k f p q r s = let h = ltb-true n.first m.first p in (omega arith, λ i. omega arith)
    go false false k f p q r s = let h = ltb-false n.first m.first p in (h, λ i. absurd (eqb-false n.first m.first q (omega arith)))
    go false true true f p q r s = let h = eqb-true n.first m.first q in (omega arith, λ i. ltb-true n.second m.second r)
    go false true false true p q r s = λ i. record { first = eqb-true n.first m.first q i; second = eqb-true n.second m.second s i }
    go false true false false p q r s =
        (ltb-false n.first m.first p, λ i. omega (arith, ltb-false n.second m.second r, eqb-false n.second m.second s))

-- a name that stands before another has the order `earlier`
pub before_order : (n m : Name) → Before n m → order n m ≡ earlier
before_order n m b = go (ltb n.first m.first) (eqb n.first m.first) (ltb n.second m.second) refl refl refl
  where
    go : (l e k : Bool) → ltb n.first m.first ≡ l → eqb n.first m.first ≡ e → ltb n.second m.second ≡ k
        → order_by l e k (eqb n.second m.second) ≡ earlier
    go true e k p q r = refl
    go false false k p q r = let h = ltb-false n.first m.first p in absurd (eqb-false n.first m.first q (omega arith))
    go false true true p q r = refl
    go false true false p q r = let h = ltb-false n.first m.first p in absurd (omega (arith, ltb-false n.second m.second r, b.1 h))

-- a name of the order `earlier` stands before the other
pub order_before : (n m : Name) → order n m ≡ earlier → Before n m
order_before n m e = subst (λ o. Means o n m) e (means n m)

before_trans : (n m k : Name) → Before n m → Before m k → Before n k
before_trans n m k a b = (omega arith, λ h. omega (arith, a.1 (omega arith), b.1 (omega arith)))

distinct : (n m : Name) → (n.first ≡ m.first → n.second ≡ m.second → ⊥) → same_name n m ≡ false
distinct n m h = go (eqb n.first m.first) (eqb n.second m.second) refl refl
  where
    go : (a b : Bool) → eqb n.first m.first ≡ a → eqb n.second m.second ≡ b → a && b ≡ false
    go true true e f = absurd (h (eqb-true n.first m.first e) (eqb-true n.second m.second f))
    go true false e f = refl
    go false b e f = refl

before_distinct : (n m : Name) → Before n m → same_name n m ≡ false
before_distinct n m b = distinct n m (λ e f. omega (arith, b.1 (omega arith)))

after_distinct : (n m : Name) → Before m n → same_name n m ≡ false
after_distinct n m b = distinct n m (λ e f. omega (arith, b.1 (omega arith)))

-- what was put is found under its name
pub found_put : (r : Register) (rs : List Register) → register_of r.name (put r rs) ≡ Some r
unfolding register_of put first_where
found_put r [] = rw (register_of, first_where, same_self r.name)
found_put r (x ∷ xs) = go (order r.name x.name) refl (means r.name x.name) (found_put r xs)
  where
    go : (o : Order) → order r.name x.name ≡ o → Means o r.name x.name → register_of r.name (put r xs) ≡ Some r → register_of r.name (put r (x ∷ xs)) ≡ Some r
    go earlier e h ih = rw (put, e, register_of, first_where, same_self r.name)
    go same e h ih = rw (put, e, register_of, first_where, same_self r.name)
    go later e h ih = rw (put, e, register_of, first_where, after_distinct r.name x.name h) ih

-- every other name is found as before
pub kept_put : (n : Name) (r : Register) (rs : List Register) → same_name n r.name ≡ false → register_of n (put r rs) ≡ register_of n rs
unfolding register_of put first_where
kept_put n r [] d = rw (register_of, first_where, d)
kept_put n r (x ∷ xs) d = go (order r.name x.name) refl (means r.name x.name) (same_name n x.name) refl (kept_put n r xs d)
  where
    go : (o : Order) → order r.name x.name ≡ o → Means o r.name x.name → (t : Bool) → same_name n x.name ≡ t
        → register_of n (put r xs) ≡ register_of n xs → register_of n (put r (x ∷ xs)) ≡ register_of n (x ∷ xs)
    go earlier e h t f ih = rw (put, e, register_of, first_where, d)
    go same e h t f ih = rw (put, e, register_of, first_where, d, first_where, subst (λ m. same_name n m ≡ false) h d)
    go later e h true f ih = rw (put, e, register_of, first_where, f)
    go later e h false f ih = rw (put, e, register_of, first_where, f) ih

abbrev put_by : Order → Register → Register → List Register → List Register
put_by o r x xs = elim o [ earlier ↦ r ∷ x ∷ xs | same ↦ r ∷ xs | later ↦ x ∷ put r xs ]

-- the names of a table, in its order
abbrev pub names : List Register → List Name
names [] = []
names (r ∷ rs) = r.name ∷ names rs

-- there are as many names as registers
pub names_length : (rs : List Register) → length (names rs) ≡ length rs
names_length [] = refl
names_length (r ∷ rs) = ap suc (names_length rs)

-- a name stands before the first of a list, and so before each if the list is in order
abbrev pub Ahead : Name → List Name → Type 0
Ahead n [] = Unit
Ahead n (m ∷ l) = order n m ≡ earlier

-- each name stands before the next
abbrev pub Ordered : List Name → Type 0
Ordered [] = Unit
Ordered (n ∷ l) = Ahead n l × Ordered l

-- the registers stand in name order
abbrev pub Sorted : List Register → Type 0
Sorted rs = Ordered (names rs)

ahead_trans : (n m : Name) (l : List Name) → Before n m → Ahead m l → Ahead n l
ahead_trans n m [] b h = tt
ahead_trans n m (k ∷ l) b h = before_order n k (before_trans n m k b (order_before m k h))

-- a name that stands before all is not found
pub not_found : (n : Name) (rs : List Register) → Ahead n (names rs) → Sorted rs → register_of n rs ≡ None
unfolding register_of first_where
not_found n [] a s = refl
not_found n (x ∷ xs) a s =
    let b = order_before n x.name a in
    rw (register_of, first_where, before_distinct n x.name b) (not_found n xs (ahead_trans n x.name (names xs) b s.0) s.1)

ahead_put : (n : Name) (r : Register) (rs : List Register) → order n r.name ≡ earlier → Ahead n (names rs) → Ahead n (names (put r rs))
unfolding put
ahead_put n r [] e h = e
ahead_put n r (x ∷ xs) e h = go (order r.name x.name)
  where
    go : (o : Order) → Ahead n (names (put_by o r x xs))
    go earlier = e
    go same = e
    go later = h

-- the table stays in order
pub put_sorted : (r : Register) (rs : List Register) → Sorted rs → Sorted (put r rs)
unfolding put
put_sorted r [] s = (tt, tt)
put_sorted r (x ∷ xs) s = go (order r.name x.name) (means r.name x.name) (put_sorted r xs s.1)
  where
    go : (o : Order) → Means o r.name x.name → Sorted (put r xs) → Sorted (put_by o r x xs)
    go earlier h ih = (before_order r.name x.name h, s)
    go same h ih = (subst (λ n. Ahead n (names xs)) (sym h) s.0, s.1)
    go later h ih = (ahead_put x.name r xs (before_order x.name r.name h) s.0, ih)

-- the table's length is the same or one more
pub put_length : (r : Register) (rs : List Register) → (length rs ≤ length (put r rs)) × (length (put r rs) ≤ suc (length rs))
unfolding put
put_length r [] = omega arith
put_length r (x ∷ xs) = go (order r.name x.name) (put_length r xs)
  where
    go : (o : Order) → (length xs ≤ length (put r xs)) × (length (put r xs) ≤ suc (length xs))
        → let l = length (put_by o r x xs) in (suc (length xs) ≤ l) × (l ≤ suc (suc (length xs)))
    go earlier ih = omega arith
    go same ih = omega arith
    go later ih = omega arith

-- a register whose name is there already is replaced: the names stay as they are
pub put_names : (r x : Register) (rs : List Register) → Sorted rs → register_of r.name rs ≡ Some x → names (put r rs) ≡ names rs
unfolding register_of put first_where
put_names r x [] s e = cc
put_names r x (y ∷ ys) s e = go (order r.name y.name) (means r.name y.name) (put_names r x ys s.1)
  where
    go : (o : Order) → Means o r.name y.name → (register_of r.name ys ≡ Some x → names (put r ys) ≡ names ys)
        → names (put_by o r y ys) ≡ names (y ∷ ys)
    go earlier h ih = let i = not_found r.name (y ∷ ys) (before_order r.name y.name h) s in cc
    go same h ih = ap (λ n. n ∷ names ys) h
    go later h ih = ap (λ l. y.name ∷ l) (ih (rw (register_of, first_where, after_distinct r.name y.name h) at e))

-- a register whose name is not there makes the table one longer
pub put_new : (r : Register) (rs : List Register) → register_of r.name rs ≡ None → length (put r rs) ≡ suc (length rs)
unfolding register_of put first_where
put_new r [] e = refl
put_new r (y ∷ ys) e = go (order r.name y.name) (means r.name y.name) (put_new r ys)
  where
    go : (o : Order) → Means o r.name y.name → (register_of r.name ys ≡ None → length (put r ys) ≡ suc (length ys))
        → length (put_by o r y ys) ≡ suc (suc (length ys))
    go earlier h ih = refl
    go same h ih = let i = rw (register_of, first_where, subst (λ m. same_name r.name m ≡ true) h (same_self r.name)) at e in cc
    go later h ih = ap suc (ih (rw (register_of, first_where, after_distinct r.name y.name h) at e))

-- a register's value and step are within ±1,000,000,000
abbrev pub BoundedRegister : Register → Type 0
BoundedRegister r = Bounded r.value × Bounded r.step

-- and so are those of each register
abbrev pub BoundedTable : List Register → Type 0
BoundedTable rs = Each BoundedRegister rs

-- what the read-only registers show is within the same bounds
pub record BoundedSeen (s : Seen) : Type 0 where
  pub page : nat_abs s.page ≤ 1000000000
  pub rows : nat_abs s.rows ≤ 1000000000
  pub line_length : nat_abs s.line_length ≤ 1000000000
  pub indent : nat_abs s.indent ≤ 1000000000
  pub page_length : nat_abs s.page_length ≤ 1000000000

-- a table stays within its bounds
pub put_bounded : (r : Register) (rs : List Register) → BoundedRegister r → BoundedTable rs → BoundedTable (put r rs)
unfolding put
put_bounded r [] h b = (h, tt)
put_bounded r (x ∷ xs) h b = go (order r.name x.name) (put_bounded r xs h b.1)
  where
    go : (o : Order) → BoundedTable (put r xs) → BoundedTable (put_by o r x xs)
    go earlier ih = (h, b)
    go same ih = (h, b.1)
    go later ih = (b.0, ih)

-- a register that is found is within its bounds
pub register_bounded : (n : Name) (rs : List Register) → BoundedTable rs → OfSome BoundedRegister (register_of n rs)
unfolding register_of
register_bounded n rs b = first_each BoundedRegister (λ r. same_name n r.name) rs b

-- what is shown is bounded
pub shown_bounded : (s : Seen) (n : Name) → BoundedSeen s → OfSome (λ f. Bounded (f s)) (shown n)
unfolding shown
shown_bounded s n b = go (first_where (λ e. same_name n e.0) read_only) (first_each (λ e. Bounded (e.1 s)) (λ e. same_name n e.0) read_only (omega arith))
  where
    go : (o : Option (Name × (Seen → ℤ))) → OfSome (λ e. Bounded (e.1 s)) o → OfSome (λ f. Bounded (f s)) (entry_of o)
    go None h = tt
    go (Some e) h = h

-- nr keeps the bounds
pub set_bounded : (n : Name) (v s : ℤ) (rs : List Register) → Bounded v → Bounded s → BoundedTable rs → Every BoundedTable (set_value n v s rs)
unfolding set_value
set_bounded n v s rs h i b =
    judge_every (leb (length (put (register n v s) rs)) 64) 11 (put (register n v s) rs) (put_bounded (register n v s) rs (h, i) b)

to_names : (r : Register) (z : ℤ) (rs : List Register) → Sorted rs → register_of r.name rs ≡ Some r → Every (λ x. names x.1 ≡ names rs) (step_to r z rs)
to_names r z rs s e = every (within z) _ (λ v. every_value (put_names (register r.name v r.step) r rs s e))

refer_names : (t : Turn) (f : Option (Seen → ℤ)) (u : Option Register) (s : Seen) (rs : List Register) → Sorted rs
    → OfSome (λ r. register_of r.name rs ≡ Some r) u → Every (λ x. names x.1 ≡ names rs) (refer_by t f u s rs)
refer_names Still (Some f) u s rs h i = every_value refl
refer_names Up (Some f) u s rs h i = every_refused
refer_names Down (Some f) u s rs h i = every_refused
refer_names t None None s rs h i = every_value refl
refer_names Still None (Some r) s rs h i = every_value refl
refer_names Up None (Some r) s rs h i = to_names r (r.value +ℤ r.step) rs h i
refer_names Down None (Some r) s rs h i = to_names r (r.value -ℤ r.step) rs h i

-- and are as many
pub same_length : (rs qs : List Register) → names qs ≡ names rs → length qs ≡ length rs
same_length rs qs e = sym (names_length qs) ∙ ap length e ∙ names_length rs

to_bounded : (r : Register) (z : ℤ) (rs : List Register) → BoundedRegister r → BoundedTable rs → Every (λ x. Bounded x.0 × BoundedTable x.1) (step_to r z rs)
to_bounded r z rs h b = every_of _ (within_bounded z) (λ v i. every_value (i, put_bounded (register r.name v r.step) rs (i, h.1) b))

refer_bounded : (t : Turn) (f : Option (Seen → ℤ)) (u : Option Register) (s : Seen) (rs : List Register) → BoundedTable rs → OfSome (λ f. Bounded (f s)) f
    → OfSome BoundedRegister u → Every (λ x. Bounded x.0 × BoundedTable x.1) (refer_by t f u s rs)
refer_bounded Still (Some f) u s rs b h i = every_value (h, b)
refer_bounded Up (Some f) u s rs b h i = every_refused
refer_bounded Down (Some f) u s rs b h i = every_refused
refer_bounded t None None s rs b h i = every_value {a = (pos 0, rs)} (omega arith, b)
refer_bounded Still None (Some r) s rs b h i = every_value (i.0, b)
refer_bounded Up None (Some r) s rs b h i = to_bounded r (r.value +ℤ r.step) rs i b
refer_bounded Down None (Some r) s rs b h i = to_bounded r (r.value -ℤ r.step) rs i b

-- what a reference gives is bounded, and so are the registers after it
pub step_bounded : (s : Seen) (t : Turn) (n : Name) (rs : List Register) → BoundedSeen s → BoundedTable rs
    → Every (λ x. Bounded x.0 × BoundedTable x.1) (step_register s t n rs)
unfolding step_register
step_bounded s t n rs h b = refer_bounded t (shown n) (register_of n rs) s rs b (shown_bounded s n h) (register_bounded n rs b)
