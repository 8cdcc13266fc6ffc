-- Laws of the traps: at most one for each N, the trap that a row has, and the nearest trap below a row. Assumes nothing.
use Rattle.std.specs.Prelude.{◌≡◌, refl, Bool, true, false, ◌&&◌, List, [], ◌∷◌, ◌++◌, ℕ, suc, ◌<◌, ◌≤◌, ltb, eqb, length, ℤ, pos, negsuc, Option, None, Some}
use Rattle.std.proofs.Common.{sym, ap, ◌∙◌, subst, arith, eqb-true, eq-eqb, ltb-true, ltb-false, ne_eqb}
use Rattle.rules.specs.declared.Name.{Name}
use Rattle.rules.specs.Numbers.{equal_z}
use Rattle.rules.specs.Traps.{row_of, is_row, seen_at, lower, nearer, nearest_trap, plant, remove_trap}
use Rattle.rules.specs.declared.Trap.{Trap}

-- the trap of an N and a name
abbrev pub trap : ℤ → Name → Trap
trap p n = record { place = record { 0 = p }; name = n }

-- A number equals itself.
pub equal_self : (p : ℤ) → equal_z p p ≡ true
equal_self (pos n) = eq-eqb n n refl
equal_self (negsuc n) = eq-eqb n n refl

-- Two numbers that are equal are one.
pub equal_one : (p q : ℤ) → equal_z p q ≡ true → p ≡ q
equal_one (pos n) (pos m) h = ap pos (eqb-true n m h)
equal_one (pos n) (negsuc m) h = let z : ◌≡◌ {A = ℕ} 0 1 = cc in absurd (omega arith)
equal_one (negsuc n) (pos m) h = let z : ◌≡◌ {A = ℕ} 0 1 = cc in absurd (omega arith)
equal_one (negsuc n) (negsuc m) h = ap negsuc (eqb-true n m h)

equal_swap : (p q : ℤ) → equal_z p q ≡ false → equal_z q p ≡ false
equal_swap p q h = go (equal_z q p) refl
  where
    go : (t : Bool) → equal_z q p ≡ t → t ≡ false
    go true e = sym (equal_self p) ∙ subst (λ k. equal_z p k ≡ false) (equal_one q p e) h
    go false e = refl

-- No trap has this N.
abbrev pub Lacks : ℤ → List Trap → Type 0
Lacks p [] = Unit
Lacks p (t ∷ ts) = (equal_z p t.place.0 ≡ false) × Lacks p ts

-- No two traps have one N.
abbrev pub Single : List Trap → Type 0
Single [] = Unit
Single (t ∷ ts) = Lacks t.place.0 ts × Single ts

-- A trap with the N planted is replaced.
pub plant_here : (p : ℤ) (n : Name) (t : Trap) (ts : List Trap) → equal_z p t.place.0 ≡ true → plant p n (t ∷ ts) ≡ trap p n ∷ ts
unfolding plant
plant_here p n t ts h = rw (plant, h)

-- Any other stays before what is planted.
pub plant_on : (p : ℤ) (n : Name) (t : Trap) (ts : List Trap) → equal_z p t.place.0 ≡ false → plant p n (t ∷ ts) ≡ t ∷ plant p n ts
unfolding plant
plant_on p n t ts h = rw (plant, h)

-- A trap with the N removed goes.
pub remove_here : (p : ℤ) (t : Trap) (ts : List Trap) → equal_z p t.place.0 ≡ true → remove_trap p (t ∷ ts) ≡ ts
unfolding remove_trap
remove_here p t ts h = rw (remove_trap, h)

-- Any other stays.
pub remove_on : (p : ℤ) (t : Trap) (ts : List Trap) → equal_z p t.place.0 ≡ false → remove_trap p (t ∷ ts) ≡ t ∷ remove_trap p ts
unfolding remove_trap
remove_on p t ts h = rw (remove_trap, h)

-- A new N comes last.
pub plant_new : (p : ℤ) (n : Name) (ts : List Trap) → Lacks p ts → plant p n ts ≡ ts ++ trap p n ∷ []
unfolding plant
plant_new p n [] h = refl
plant_new p n (t ∷ ts) h = rw (plant_on p n t ts h.0, plant_new p n ts h.1)

-- A search that goes forwards: the first trap of the N is replaced in its place.
pub plant_at_lem : (p : ℤ) (n : Name) (a b : List Trap) (t : Trap) → Lacks p a → equal_z p t.place.0 ≡ true → plant p n (a ++ t ∷ b) ≡ a ++ trap p n ∷ b
plant_at_lem p n [] b t h e = plant_here p n t b e
plant_at_lem p n (u ∷ a) b t h e = rw (plant_on p n u (a ++ t ∷ b) h.0) (ap (λ l. u ∷ l) (plant_at_lem p n a b t h.1 e))

-- It alone is removed.
pub remove_trap_at : (p : ℤ) (a b : List Trap) (t : Trap) → Lacks p a → equal_z p t.place.0 ≡ true → remove_trap p (a ++ t ∷ b) ≡ a ++ b
remove_trap_at p [] b t h e = remove_here p t b e
remove_trap_at p (u ∷ a) b t h e = rw (remove_on p u (a ++ t ∷ b) h.0) (ap (λ l. u ∷ l) (remove_trap_at p a b t h.1 e))

-- If no trap has the N, none is removed.
pub remove_trap_none : (p : ℤ) (ts : List Trap) → Lacks p ts → remove_trap p ts ≡ ts
unfolding remove_trap
remove_trap_none p [] h = refl
remove_trap_none p (t ∷ ts) h = rw (remove_on p t ts h.0, remove_trap_none p ts h.1)

-- One trap more that has another N.
pub lacks_end : (p : ℤ) (ts : List Trap) (t : Trap) → Lacks p ts → equal_z p t.place.0 ≡ false → Lacks p (ts ++ t ∷ [])
lacks_end p [] t h e = (e, tt)
lacks_end p (u ∷ ts) t h e = (h.0, lacks_end p ts t h.1 e)

-- Planting adds at most one trap.
pub plant_length : (p : ℤ) (n : Name) (ts : List Trap) → length (plant p n ts) ≤ suc (length ts)
unfolding plant
plant_length p n [] = omega arith
plant_length p n (t ∷ ts) = go (equal_z p t.place.0) refl (plant_length p n ts)
  where
    go : (b : Bool) → equal_z p t.place.0 ≡ b → length (plant p n ts) ≤ suc (length ts) → length (plant p n (t ∷ ts)) ≤ suc (suc (length ts))
    go true e ih = rw (plant_here p n t ts e) (omega arith)
    go false e ih = rw (plant_on p n t ts e) (omega arith)

-- Uprooting adds none.
pub remove_length : (p : ℤ) (ts : List Trap) → length (remove_trap p ts) ≤ length ts
unfolding remove_trap
remove_length p [] = omega arith
remove_length p (t ∷ ts) = go (equal_z p t.place.0) refl (remove_length p ts)
  where
    go : (b : Bool) → equal_z p t.place.0 ≡ b → length (remove_trap p ts) ≤ length ts → length (remove_trap p (t ∷ ts)) ≤ suc (length ts)
    go true e ih = rw (remove_here p t ts e) (omega arith)
    go false e ih = rw (remove_on p t ts e) (omega arith)

-- An N that no trap has is still had by none when another is planted.
pub lacks_plant : (q p : ℤ) (n : Name) (ts : List Trap) → equal_z q p ≡ false → Lacks q ts → Lacks q (plant p n ts)
unfolding plant
lacks_plant q p n [] d h = (d, tt)
lacks_plant q p n (t ∷ ts) d h = go (equal_z p t.place.0) refl (lacks_plant q p n ts d h.1)
  where
    go : (b : Bool) → equal_z p t.place.0 ≡ b → Lacks q (plant p n ts) → Lacks q (plant p n (t ∷ ts))
    go true e ih = rw (plant_here p n t ts e) (d, h.1)
    go false e ih = rw (plant_on p n t ts e) (h.0, ih)

-- Planting keeps at most one trap for each N.
pub single_plant : (p : ℤ) (n : Name) (ts : List Trap) → Single ts → Single (plant p n ts)
unfolding plant
single_plant p n [] h = (tt, tt)
single_plant p n (t ∷ ts) h = go (equal_z p t.place.0) refl (single_plant p n ts h.1)
  where
    go : (b : Bool) → equal_z p t.place.0 ≡ b → Single (plant p n ts) → Single (plant p n (t ∷ ts))
    go true e ih = rw (plant_here p n t ts e) (subst (λ k. Lacks k ts) (sym (equal_one p t.place.0 e)) h.0, h.1)
    go false e ih = rw (plant_on p n t ts e) (lacks_plant t.place.0 p n ts (equal_swap p t.place.0 e) h.0, ih)

-- An N that no trap has is still had by none after any is removed.
pub lacks_remove : (q p : ℤ) (ts : List Trap) → Lacks q ts → Lacks q (remove_trap p ts)
unfolding remove_trap
lacks_remove q p [] h = tt
lacks_remove q p (t ∷ ts) h = go (equal_z p t.place.0) refl (lacks_remove q p ts h.1)
  where
    go : (b : Bool) → equal_z p t.place.0 ≡ b → Lacks q (remove_trap p ts) → Lacks q (remove_trap p (t ∷ ts))
    go true e ih = rw (remove_here p t ts e) h.1
    go false e ih = rw (remove_on p t ts e) (h.0, ih)

-- Uprooting keeps at most one trap for each N.
pub single_remove : (p : ℤ) (ts : List Trap) → Single ts → Single (remove_trap p ts)
unfolding remove_trap
single_remove p [] h = tt
single_remove p (t ∷ ts) h = go (equal_z p t.place.0) refl (single_remove p ts h.1)
  where
    go : (b : Bool) → equal_z p t.place.0 ≡ b → Single (remove_trap p ts) → Single (remove_trap p (t ∷ ts))
    go true e ih = rw (remove_here p t ts e) h.1
    go false e ih = rw (remove_on p t ts e) (lacks_remove t.place.0 p ts h.0, ih)

-- Uprooting leaves no trap of the N.
pub gone_remove_trap : (p : ℤ) (ts : List Trap) → Single ts → Lacks p (remove_trap p ts)
unfolding remove_trap
gone_remove_trap p [] h = tt
gone_remove_trap p (t ∷ ts) h = go (equal_z p t.place.0) refl (gone_remove_trap p ts h.1)
  where
    go : (b : Bool) → equal_z p t.place.0 ≡ b → Lacks p (remove_trap p ts) → Lacks p (remove_trap p (t ∷ ts))
    go true e ih = rw (remove_here p t ts e) (subst (λ k. Lacks k ts) (sym (equal_one p t.place.0 e)) h.0)
    go false e ih = rw (remove_on p t ts e) (e, ih)

-- A row's trap is the first that stands at it.
pub seen_first : (pl r : ℕ) (t : Trap) (ts : List Trap) → is_row r (row_of pl t.place.0) ≡ true → seen_at pl r (t ∷ ts) ≡ Some t.name
unfolding seen_at
seen_first pl r t ts h = rw (seen_at, h)

-- A trap that does not stand at the row is passed over.
pub seen_later : (pl r : ℕ) (t : Trap) (ts : List Trap) → is_row r (row_of pl t.place.0) ≡ false → seen_at pl r (t ∷ ts) ≡ seen_at pl r ts
unfolding seen_at
seen_later pl r t ts h = rw (seen_at, h)

-- A search that goes forwards: where no trap was seen, the next at the row is.
pub seen_at_lem : (pl r : ℕ) (a b : List Trap) → seen_at pl r a ≡ None → seen_at pl r (a ++ b) ≡ seen_at pl r b
unfolding seen_at
seen_at_lem pl r [] b h = refl
seen_at_lem pl r (t ∷ a) b h = go (is_row r (row_of pl t.place.0)) refl (seen_at_lem pl r a b)
  where
    go : (x : Bool) → is_row r (row_of pl t.place.0) ≡ x → (seen_at pl r a ≡ None → seen_at pl r (a ++ b) ≡ seen_at pl r b)
        → seen_at pl r (t ∷ (a ++ b)) ≡ seen_at pl r b
    go true e ih = let j = seen_first pl r t a e in let z : ◌≡◌ {A = ℕ} 0 1 = cc in absurd (omega arith)
    go false e ih = seen_later pl r t (a ++ b) e ∙ ih (sym (seen_later pl r t a e) ∙ h)

-- Where one was seen, it is seen whatever follows.
pub seen_kept : (pl r : ℕ) (a b : List Trap) (n : Name) → seen_at pl r a ≡ Some n → seen_at pl r (a ++ b) ≡ Some n
unfolding seen_at
seen_kept pl r [] b n h = let z : ◌≡◌ {A = ℕ} 0 1 = cc in absurd (omega arith)
seen_kept pl r (t ∷ a) b n h = go (is_row r (row_of pl t.place.0)) refl (seen_kept pl r a b n)
  where
    go : (x : Bool) → is_row r (row_of pl t.place.0) ≡ x → (seen_at pl r a ≡ Some n → seen_at pl r (a ++ b) ≡ Some n) → seen_at pl r (t ∷ (a ++ b)) ≡ Some n
    go true e ih = seen_first pl r t (a ++ b) e ∙ (sym (seen_first pl r t a e) ∙ h)
    go false e ih = seen_later pl r t (a ++ b) e ∙ ih (sym (seen_later pl r t a e) ∙ h)

-- A trap planted at another row changes nothing at this one.
pub seen_plant_other : (pl r : ℕ) (p : ℤ) (n : Name) (ts : List Trap) → is_row r (row_of pl p) ≡ false → seen_at pl r (plant p n ts) ≡ seen_at pl r ts
unfolding plant
seen_plant_other pl r p n [] h = seen_later pl r (trap p n) [] h
seen_plant_other pl r p n (t ∷ ts) h = go (equal_z p t.place.0) (is_row r (row_of pl t.place.0)) refl refl (seen_plant_other pl r p n ts h)
  where
    go : (a b : Bool) → equal_z p t.place.0 ≡ a → is_row r (row_of pl t.place.0) ≡ b → seen_at pl r (plant p n ts) ≡ seen_at pl r ts
        → seen_at pl r (plant p n (t ∷ ts)) ≡ seen_at pl r (t ∷ ts)
    go true b e f ih =
        rw (plant_here p n t ts e, seen_later pl r (trap p n) ts h, seen_later pl r t ts (subst (λ k. is_row r (row_of pl k) ≡ false) (equal_one p t.place.0 e) h))
    go false true e f ih = rw (plant_on p n t ts e, seen_first pl r t (plant p n ts) f, seen_first pl r t ts f)
    go false false e f ih = rw (plant_on p n t ts e, seen_later pl r t (plant p n ts) f, seen_later pl r t ts f) ih

-- A trap planted at a row that had none is seen there.
pub seen_plant : (pl r : ℕ) (p : ℤ) (n : Name) (ts : List Trap) → is_row r (row_of pl p) ≡ true → seen_at pl r ts ≡ None → seen_at pl r (plant p n ts) ≡ Some n
unfolding plant
seen_plant pl r p n [] h i = seen_first pl r (trap p n) [] h
seen_plant pl r p n (t ∷ ts) h i = go (equal_z p t.place.0) (is_row r (row_of pl t.place.0)) refl refl (seen_plant pl r p n ts h)
  where
    go : (a b : Bool) → equal_z p t.place.0 ≡ a → is_row r (row_of pl t.place.0) ≡ b → (seen_at pl r ts ≡ None → seen_at pl r (plant p n ts) ≡ Some n)
        → seen_at pl r (plant p n (t ∷ ts)) ≡ Some n
    go true b e f ih = rw (plant_here p n t ts e) (seen_first pl r (trap p n) ts h)
    go false true e f ih = let j = seen_first pl r t ts f in let z : ◌≡◌ {A = ℕ} 0 1 = cc in absurd (omega arith)
    go false false e f ih = rw (plant_on p n t ts e, seen_later pl r t (plant p n ts) f) (ih (sym (seen_later pl r t ts f) ∙ i))

-- Sanity: "of two at one row the earlier planted is seen": where a row has a trap, a new N changes nothing.
pub seen_plant_second : (pl r : ℕ) (p : ℤ) (n m : Name) (ts : List Trap) → Lacks p ts → seen_at pl r ts ≡ Some m → seen_at pl r (plant p n ts) ≡ Some m
seen_plant_second pl r p n m ts h i = rw (plant_new p n ts h) (seen_kept pl r ts (trap p n ∷ []) m i)

-- A trap removed at another row changes nothing at this one.
pub seen_remove_other : (pl r : ℕ) (p : ℤ) (ts : List Trap) → is_row r (row_of pl p) ≡ false → seen_at pl r (remove_trap p ts) ≡ seen_at pl r ts
unfolding remove_trap
seen_remove_other pl r p [] h = refl
seen_remove_other pl r p (t ∷ ts) h = go (equal_z p t.place.0) (is_row r (row_of pl t.place.0)) refl refl (seen_remove_other pl r p ts h)
  where
    go : (a b : Bool) → equal_z p t.place.0 ≡ a → is_row r (row_of pl t.place.0) ≡ b → seen_at pl r (remove_trap p ts) ≡ seen_at pl r ts
        → seen_at pl r (remove_trap p (t ∷ ts)) ≡ seen_at pl r (t ∷ ts)
    go true b e f ih = rw (remove_here p t ts e, seen_later pl r t ts (subst (λ k. is_row r (row_of pl k) ≡ false) (equal_one p t.place.0 e) h))
    go false true e f ih = rw (remove_on p t ts e, seen_first pl r t (remove_trap p ts) f, seen_first pl r t ts f)
    go false false e f ih = rw (remove_on p t ts e, seen_later pl r t (remove_trap p ts) f, seen_later pl r t ts f) ih

-- the same four of one trap's row, or else the best so far
nearer_above : (r : ℕ) (o : Option ℕ) (best : ℕ) → r < best → r < nearer r o best
nearer_above r None best h = h
nearer_above r (Some n) best h = go (ltb r n) (ltb n best) refl
  where
    go : (a b : Bool) → ltb r n ≡ a → r < lower (a && b) n best
    go true true e = ltb-true r n e
    go true false e = h
    go false b e = h

nearer_most : (r : ℕ) (o : Option ℕ) (best : ℕ) → nearer r o best ≤ best
nearer_most r None best = omega arith
nearer_most r (Some n) best = go (ltb r n) (ltb n best) refl
  where
    go : (a b : Bool) → ltb n best ≡ b → lower (a && b) n best ≤ best
    go true true e = omega (arith, ltb-true n best e)
    go true false e = omega arith
    go false b e = omega arith

nearer_there : (r : ℕ) (o : Option ℕ) (best : ℕ) → nearer r o best < best → is_row (nearer r o best) o ≡ true
nearer_there r None best h = absurd (omega arith)
nearer_there r (Some n) best h = go (ltb r n && ltb n best) h
  where
    go : (a : Bool) → lower a n best < best → eqb (lower a n best) n ≡ true
    go true h = eq-eqb n n refl
    go false h = absurd (omega arith)

nearer_between : (r q : ℕ) (o : Option ℕ) (best : ℕ) → r < q → q < nearer r o best → is_row q o ≡ false
nearer_between r q None best h i = refl
nearer_between r q (Some n) best h i = ne_eqb q n (λ e. go (ltb r n) (ltb n best) refl refl e i)
  where
    go : (a b : Bool) → ltb r n ≡ a → ltb n best ≡ b → q ≡ n → q < lower (a && b) n best → ⊥
    go true true e f g i = omega arith
    go true false e f g i = omega (arith, ltb-false n best f)
    go false b e f g i = omega (arith, ltb-false r n e)

-- A search that goes forwards keeps the best so far.
pub nearest_append : (pl r best : ℕ) (a b : List Trap) → nearest_trap pl r best (a ++ b) ≡ nearest_trap pl r (nearest_trap pl r best a) b
unfolding nearest_trap
nearest_append pl r best [] b = refl
nearest_append pl r best (t ∷ a) b = nearest_append pl r (nearer r (row_of pl t.place.0) best) a b

-- The nearest trap is below the row, if the best to begin with is.
pub nearest_above : (pl r best : ℕ) (ts : List Trap) → r < best → r < nearest_trap pl r best ts
unfolding nearest_trap
nearest_above pl r best [] h = h
nearest_above pl r best (t ∷ ts) h = nearest_above pl r (nearer r (row_of pl t.place.0) best) ts (nearer_above r (row_of pl t.place.0) best h)

-- It is at most the best to begin with.
pub nearest_most : (pl r best : ℕ) (ts : List Trap) → nearest_trap pl r best ts ≤ best
unfolding nearest_trap
nearest_most pl r best [] = omega arith
nearest_most pl r best (t ∷ ts) =
    omega (arith, nearest_most pl r (nearer r (row_of pl t.place.0) best) ts, nearer_most r (row_of pl t.place.0) best)

-- Where it is less than that, a trap is there.
pub nearest_there : (pl r best : ℕ) (ts : List Trap) → nearest_trap pl r best ts < best → (n : Name) × (seen_at pl (nearest_trap pl r best ts) ts ≡ Some n)
unfolding nearest_trap
nearest_there pl r best [] h = absurd (omega arith)
nearest_there pl r best (t ∷ ts) h = go (is_row near (row_of pl t.place.0)) (ltb near first) refl refl (nearest_there pl r first ts)
  where
    first : ℕ
    first = nearer r (row_of pl t.place.0) best

    near : ℕ
    near = nearest_trap pl r first ts

    go : (a b : Bool) → is_row near (row_of pl t.place.0) ≡ a → ltb near first ≡ b → (near < first → (n : Name) × (seen_at pl near ts ≡ Some n))
        → (n : Name) × (seen_at pl near (t ∷ ts) ≡ Some n)
    go true b e f ih = (t.name, seen_first pl near t ts e)
    go false true e f ih = let g = ih (ltb-true near first f) in (g.0, seen_later pl near t ts e ∙ g.1)
    go false false e f ih =
        let same : near ≡ first = omega (arith, ltb-false near first f, nearest_most pl r first ts) in
        let there = nearer_there r (row_of pl t.place.0) best (omega arith) in
        let z : true ≡ false = sym there ∙ subst (λ x. is_row x (row_of pl t.place.0) ≡ false) same e in
        let y : ◌≡◌ {A = ℕ} 0 1 = cc in absurd (omega arith)

-- No trap is between the row and it.
pub nearest_between : (pl r q best : ℕ) (ts : List Trap) → r < q → q < nearest_trap pl r best ts → seen_at pl q ts ≡ None
unfolding nearest_trap seen_at
nearest_between pl r q best [] h i = refl
nearest_between pl r q best (t ∷ ts) h i =
    let first = nearer r (row_of pl t.place.0) best in
    seen_later pl q t ts (nearer_between r q (row_of pl t.place.0) best h (omega (arith, nearest_most pl r first ts)))
    ∙ nearest_between pl r q first ts h i
