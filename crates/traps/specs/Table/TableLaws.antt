-- Laws of the table: what its searches answer, planting and removing by an index, and what the table holds afterwards. Assumes nothing.
use Rattle.std.specs.Prelude.{◌≡◌, refl, Bool, true, false, List, [], ◌∷◌, ◌++◌, ℕ, suc, ◌+◌, ◌-◌, ◌≤◌, ◌<◌, cond, ltb, ℤ, length, take, drop, set, leb, Option, None, Some, option_map, find, fold, position}
use Rattle.std.specs.List.{position_or_len}
use Rattle.std.proofs.Common.{sym, ap, ◌∙◌, append-nil, add-one, arith, length-append, length-take, length-drop, length-set, take-append-drop, drop_of_length-le, length-take-le, take_all, take-take, take-add, drop_at, le-leb, leb-true, ltb-true, ltb-false}
use Rattle.std.proofs.Math.Seq.{take-append_seam, append_snoc, paste, length_paste_head}
use Rattle.std.proofs.lemmas.List.{set_split, set-append_left}
use Rattle.std.proofs.lemmas.List.Recursion.{is_position_or_len}
use Rattle.std.proofs.lemmas.Bool.{lt-leb}
use Rattle.rules.specs.declared.Name.{Name}
use Rattle.rules.specs.declared.Trap.{Trap}
use Rattle.rules.specs.Numbers.{equal_z}
use Rattle.rules.specs.Refusals.{value, bad}
use Rattle.rules.specs.Traps.{row_of, is_row, seen_at, nearer, nearest_trap, plant, remove_trap}
use Rattle.rules.specs.Laws.Traps.{trap, plant_here, plant_on, remove_here, remove_on, seen_first, seen_later, remove_length}
use Rattle.traps.specs.declared.table.Planted.{Planted}
use Rattle.traps.specs.Table.Table.{TrapsInvariant, planted_of, holding, stands_for, index_of, without, kept_or, planting_of}

-- The rules' searches of a list, as the code makes them.
pub seen_find : (pl r : ℕ) (ts : List Trap) → option_map (λ t. t.name) (find (λ t. is_row r (row_of pl t.place.0)) ts) ≡ seen_at pl r ts
unfolding seen_at
seen_find pl r [] = refl
seen_find pl r (t ∷ ts) = go (is_row r (row_of pl t.place.0)) refl (seen_find pl r ts)
  where
    go : (b : Bool) → is_row r (row_of pl t.place.0) ≡ b → option_map (λ t. t.name) (find (λ t. is_row r (row_of pl t.place.0)) ts) ≡ seen_at pl r ts
        → option_map (λ t. t.name) (find (λ t. is_row r (row_of pl t.place.0)) (t ∷ ts)) ≡ seen_at pl r (t ∷ ts)
    go true e ih = rw (seen_first pl r t ts e, e)
    go false e ih = rw (seen_later pl r t ts e, e) ih

pub nearest_fold : (pl r best : ℕ) (ts : List Trap) → fold (λ b t. nearer r (row_of pl t.place.0) b) best ts ≡ nearest_trap pl r best ts
unfolding nearest_trap
nearest_fold pl r best [] = refl
nearest_fold pl r best (t ∷ ts) = nearest_fold pl r (nearer r (row_of pl t.place.0) best) ts

-- The index of a trap that has the N, and of one that comes later.
pub index_here : (p : ℤ) (t : Trap) (ts : List Trap) → equal_z p t.place.0 ≡ true → index_of p (t ∷ ts) ≡ 0
unfolding index_of
index_here p t ts h = rw (index_of, h)

pub index_on : (p : ℤ) (t : Trap) (ts : List Trap) → equal_z p t.place.0 ≡ false → index_of p (t ∷ ts) ≡ suc (index_of p ts)
unfolding index_of
index_on p t ts h = rw (index_of, h)

-- What a search of the list for an N answers: the index of its trap,
index_position : (p : ℤ) (ts : List Trap) → index_of p ts ≡ position_or_len (stands_for p) ts
unfolding index_of
index_position p = is_position_or_len (index_of p) (stands_for p) refl (λ t ts. go t ts (equal_z p t.place.0) refl)
  where
    go : (t : Trap) (ts : List Trap) (b : Bool) → equal_z p t.place.0 ≡ b → index_of p (t ∷ ts) ≡ cond (equal_z p t.place.0) 0 (1 + index_of p ts)
    go t ts true e = rw (index_here p t ts e, e)
    go t ts false e = rw (index_on p t ts e, e) (omega arith)

pub position_at : (p : ℤ) (ts : List Trap) (k : ℕ) → Some k ≡ position (stands_for p) ts → (k ≡ index_of p ts) × (k < length ts)
position_at p ts k h = rw (index_position p ts) (go (ltb (position_or_len (stands_for p) ts) (length ts)) refl)
  where
    go : (b : Bool) → ltb (position_or_len (stands_for p) ts) (length ts) ≡ b → (k ≡ position_or_len (stands_for p) ts) × (k < length ts)
    go true e = let q : Some k ≡ Some (position_or_len (stands_for p) ts) = rw e at h in let r : k ≡ position_or_len (stands_for p) ts = cc in (r, omega (arith, ltb-true (position_or_len (stands_for p) ts) (length ts) e))
    go false e = absurd (let q : Some k ≡ None = rw e at h in cc)

-- or that no trap has it.
pub position_none : (p : ℤ) (ts : List Trap) → None ≡ position (stands_for p) ts → length ts ≤ index_of p ts
position_none p ts h = rw (index_position p ts) (go (ltb (position_or_len (stands_for p) ts) (length ts)) refl)
  where
    go : (b : Bool) → ltb (position_or_len (stands_for p) ts) (length ts) ≡ b → length ts ≤ position_or_len (stands_for p) ts
    go true e = absurd (let q : ◌≡◌ {A = Option ℕ} None (Some (position_or_len (stands_for p) ts)) = rw e at h in cc)
    go false e = omega (arith, ltb-false (position_or_len (stands_for p) ts) (length ts) e)

-- A trap is planted at the index of its N, and removed from it; an index that is the length is a new N, or none.
pub plant_index : (p : ℤ) (n : Name) (ts : List Trap) → plant p n ts ≡ take (index_of p ts) ts ++ trap p n ∷ drop (suc (index_of p ts)) ts
unfolding index_of plant
plant_index p n [] = refl
plant_index p n (t ∷ ts) = go (equal_z p t.place.0) refl (plant_index p n ts)
  where
    go : (b : Bool) → equal_z p t.place.0 ≡ b → plant p n ts ≡ take (index_of p ts) ts ++ trap p n ∷ drop (suc (index_of p ts)) ts
        → plant p n (t ∷ ts) ≡ take (index_of p (t ∷ ts)) (t ∷ ts) ++ trap p n ∷ drop (suc (index_of p (t ∷ ts))) (t ∷ ts)
    go true e ih = rw (index_here p t ts e) (plant_here p n t ts e)
    go false e ih = rw (index_on p t ts e) (plant_on p n t ts e ∙ ap (λ l. t ∷ l) ih)

pub remove_index : (p : ℤ) (ts : List Trap) → remove_trap p ts ≡ without (index_of p ts) ts
unfolding index_of remove_trap
remove_index p [] = refl
remove_index p (t ∷ ts) = go (equal_z p t.place.0) refl (remove_index p ts)
  where
    go : (b : Bool) → equal_z p t.place.0 ≡ b → remove_trap p ts ≡ without (index_of p ts) ts → remove_trap p (t ∷ ts) ≡ without (index_of p (t ∷ ts)) (t ∷ ts)
    go true e ih = rw (index_here p t ts e) (remove_here p t ts e)
    go false e ih = rw (index_on p t ts e) (remove_on p t ts e ∙ ap (λ l. t ∷ l) ih)

-- The table without what stands at the index of an N.
pub remove_by : (p : Planted) (z : ℤ) (k : ℕ) → k ≡ index_of z (planted_of p) → holding p (without k (planted_of p)) ≡ holding p (remove_trap z (planted_of p))
remove_by p z k e = rw (e, remove_index z (planted_of p))

-- A table holds the list that is put in front of it.
pub holding_list : (p : Planted) (ts : List Trap) → planted_of (holding p ts) ≡ ts
holding_list p ts = take-append_seam ts (drop (length ts) p.traps)

-- What `plant` answers where it keeps the list ts of n traps.
kept : (p : Planted) (ts a : List Trap) (n : ℕ) → length ts ≡ n → n ≤ 16 → a ≡ ts ++ drop n p.traps
    → value (record { traps = a; count = n }) ≡ kept_or p ts
kept p ts a n e h f = rw (e, le-leb n 16 h, f)

module _ (p : Planted) (sized : length p.traps ≡ 16) (w : TrapsInvariant p) where
  planted_length : length (planted_of p) ≡ p.count
  planted_length = length-take-le p.count p.traps (omega arith)

  module _ (z : ℤ) (n : Name) where
    -- the N is planted already, at index k
    pub plant_old : (k : ℕ) → k ≡ index_of z (planted_of p) → k < p.count
        → value (record { traps = set p.traps k (trap z n); count = p.count }) ≡ planting_of p z n
    plant_old k e h =
        let ts = planted_of p in
        let l : plant z n ts ≡ set ts k (trap z n) = rw (plant_index z n ts, ← e) (sym (set_split ts k (trap z n) (omega (arith, planted_length)))) in
        let f : set p.traps k (trap z n) ≡ set ts k (trap z n) ++ drop p.count p.traps
        = ap (λ a. set a k (trap z n)) (sym (take-append-drop p.count p.traps)) ∙ set-append_left ts (drop p.count p.traps) k (trap z n) (omega (arith, planted_length)) in
        rw l (kept p (set ts k (trap z n)) (set p.traps k (trap z n)) p.count (length-set ts k (trap z n) ∙ planted_length) w f)

    -- it is new
    new_last : (k : ℕ) → k ≡ index_of z (planted_of p) → p.count ≤ k → plant z n (planted_of p) ≡ planted_of p ++ trap z n ∷ []
    new_last k e h =
        let ts = planted_of p in
        let l : length ts ≤ index_of z ts = omega (arith, planted_length) in
        rw (plant_index z n ts, take_all (index_of z ts) ts l, drop_of_length-le ts {i = suc (index_of z ts)} (omega arith))

    new_length : length (planted_of p ++ trap z n ∷ []) ≡ p.count + 1
    new_length = omega (arith, length-append (planted_of p) (trap z n ∷ []), planted_length)

    pub plant_last : (k : ℕ) → k ≡ index_of z (planted_of p) → p.count ≤ k → p.count < 16
        → value (record { traps = set p.traps p.count (trap z n); count = p.count + 1 }) ≡ planting_of p z n
    plant_last k e h g =
        let f : set p.traps p.count (trap z n) ≡ planted_of p ++ trap z n ∷ [] ++ drop (p.count + 1) p.traps
        = rw (add-one p.count, append_snoc (planted_of p) (trap z n) (drop (suc p.count) p.traps)) (set_split p.traps p.count (trap z n) (omega arith)) in
        rw (new_last k e h) (kept p (planted_of p ++ trap z n ∷ []) (set p.traps p.count (trap z n)) (p.count + 1) new_length (omega arith) f)

    pub plant_full : (k : ℕ) → k ≡ index_of z (planted_of p) → p.count ≤ k → 16 ≤ p.count → bad 11 ≡ planting_of p z n
    plant_full k e h g = rw (new_last k e h, new_length, lt-leb (p.count + 1) 16 (omega arith))

  -- nothing stands at the index
  pub close_none : (at : ℕ) → p.count ≤ at → p ≡ holding p (without at (planted_of p))
  close_none at h =
      let ts = planted_of p in
      let l : without at ts ≡ ts = rw (take_all at ts (omega (arith, planted_length)), drop_of_length-le ts {i = suc at} (omega (arith, planted_length))) (append-nil ts) in
      rw (l, planted_length, take-append-drop p.count p.traps)

  -- the later traps are at their new places
  pub close_on : (at : ℕ) (left : List Trap) → at < p.count → left ≡ paste p.traps at (drop (at + 1) p.traps) (p.count - (at + 1))
      → ◌≡◌ {A = Planted} (record { traps = left; count = p.count - 1 }) (holding p (without at (planted_of p)))
  close_on at left h e =
      let l = p.traps in
      let m = p.count - (at + 1) in
      let n : p.count ≡ (at + 1) + m = omega arith in
      let d : drop (suc at) (take p.count l) ≡ take m (drop (at + 1) l)
      = rw (← add-one at) (ap (λ k. drop (at + 1) (take k l)) n ∙ (rw (take-add (at + 1) m l) (drop_at (take (at + 1) l) (take m (drop (at + 1) l)) (at + 1) (length-take-le (at + 1) l (omega arith))))) in
      let f : without at (planted_of p) ≡ take at l ++ take m (drop (at + 1) l) = rw (take-take at p.count l (omega arith), d) in
      let g : length (take at l ++ take m (drop (at + 1) l)) ≡ at + m = length_paste_head l at (drop (at + 1) l) m (omega arith) (omega (arith, length-drop (at + 1) l)) in
      let k : p.count - 1 ≡ at + m = omega arith in
      rw (f, g, e, k)

-- A table that keeps to its bound still does, whatever is planted or removed.
pub within_plant : (p : Planted) (z : ℤ) (n : Name) (r : Planted) → value r ≡ planting_of p z n → TrapsInvariant r
within_plant p z n r e = go (leb (length (plant z n (planted_of p))) 16) refl
  where
    go : (b : Bool) → leb (length (plant z n (planted_of p))) 16 ≡ b → TrapsInvariant r
    go true f = let q : value r ≡ value (holding p (plant z n (planted_of p))) = rw f at e in let k : r ≡ holding p (plant z n (planted_of p)) = cc in rw k (leb-true (length (plant z n (planted_of p))) 16 f)
    go false f = absurd (let q : value r ≡ bad 11 = rw f at e in cc)

pub traps_within_remove : (p : Planted) (z : ℤ) → TrapsInvariant p → TrapsInvariant (holding p (remove_trap z (planted_of p)))
traps_within_remove p z w = omega (arith, remove_length z (planted_of p), length-take p.count p.traps)
