-- The first traps of an array, one after the other: what the rules' searches make of the trap at a place. Assumes nothing.
use Rattle.std.specs.Prelude.{◌≡◌, true, false, List, [], ◌∷◌, ℕ, ◌+◌, ◌≤◌, ◌<◌, ℤ, length, take, drop, get_or, set, None, Some}
use Rattle.std.proofs.Common.{add-one, arith, length-take, length-drop, drop_of_length-le, drop-cons, get_or-take, get_or-drop, length-take-le}
use Rattle.std.proofs.Math.Seq.{paste, paste-suc}
use Rattle.rules.specs.declared.Trap.{Trap}
use Rattle.rules.specs.Numbers.{equal_z}
use Rattle.rules.specs.Traps.{row_of, is_row, seen_at, nearer, nearest_trap}
use Rattle.rules.specs.Laws.Traps.{seen_first, seen_later}
use Rattle.traps.specs.Table.Table.{index_of}
use Rattle.traps.specs.Table.TableLaws.{index_here, index_on}

-- The first n of an array have at a place what the array has there,
pub front_next : {X : Type 0} (l : List X) (n i : ℕ) (d : X) → i < n → n ≤ length l → drop i (take n l) ≡ get_or l i d ∷ drop (i + 1) (take n l)
front_next l n i d h k =
    let g : i < length (take n l) = omega (arith, length-take-le n l k) in
    rw (drop-cons (take n l) i d g, get_or-take n l i d h, add-one i)

-- or are at their end.
pub front_end : {X : Type 0} (l : List X) (n i : ℕ) → n ≤ i → drop i (take n l) ≡ []
front_end l n i h = drop_of_length-le (take n l) {i = i} (omega (arith, length-take n l))

module _ (l : List Trap) (n i : ℕ) (d : Trap) (h : i < n) (k : n ≤ length l) where
  pub seen_here : (pl r : ℕ) → is_row r (row_of pl (get_or l i d).place.0) ≡ true → seen_at pl r (drop i (take n l)) ≡ Some (get_or l i d).name
  seen_here pl r e = rw (front_next l n i d h k) (seen_first pl r (get_or l i d) (drop (i + 1) (take n l)) e)

  pub seen_on : (pl r : ℕ) → is_row r (row_of pl (get_or l i d).place.0) ≡ false → seen_at pl r (drop i (take n l)) ≡ seen_at pl r (drop (i + 1) (take n l))
  seen_on pl r e = rw (front_next l n i d h k) (seen_later pl r (get_or l i d) (drop (i + 1) (take n l)) e)

  pub nearest_on : (pl r best : ℕ)
      → nearest_trap pl r best (drop i (take n l)) ≡ nearest_trap pl r (nearer r (row_of pl (get_or l i d).place.0) best) (drop (i + 1) (take n l))
  unfolding nearest_trap
  nearest_on pl r best = rw (front_next l n i d h k)

  pub index_is : (p : ℤ) → equal_z p (get_or l i d).place.0 ≡ true → i + index_of p (drop i (take n l)) ≡ i
  index_is p e = rw (front_next l n i d h k, index_here p (get_or l i d) (drop (i + 1) (take n l)) e) (omega arith)

  pub index_after : (p : ℤ) → equal_z p (get_or l i d).place.0 ≡ false → i + index_of p (drop i (take n l)) ≡ (i + 1) + index_of p (drop (i + 1) (take n l))
  index_after p e = rw (front_next l n i d h k, index_on p (get_or l i d) (drop (i + 1) (take n l)) e) (omega arith)

pub seen_end : (l : List Trap) (n i pl r : ℕ) → n ≤ i → seen_at pl r (drop i (take n l)) ≡ None
unfolding seen_at
seen_end l n i pl r h = rw (front_end l n i h)

pub nearest_end : (l : List Trap) (n i pl r best : ℕ) → n ≤ i → nearest_trap pl r best (drop i (take n l)) ≡ best
unfolding nearest_trap
nearest_end l n i pl r best h = rw (front_end l n i h)

pub index_end : (l : List Trap) (n i : ℕ) (p : ℤ) → n ≤ i → i + index_of p (drop i (take n l)) ≡ i
unfolding index_of
index_end l n i p h = rw (front_end l n i h) (omega arith)

-- One trap more that was behind a removed one is at its new place.
pub close_next : {X : Type 0} (l : List X) (at j : ℕ) (d : X) → at + 1 + j < length l
    → set (paste l at (drop (at + 1) l) j) (at + j) (get_or l (at + 1 + j) d) ≡ paste l at (drop (at + 1) l) (j + 1)
close_next l at j d h =
    let s : j < length (drop (at + 1) l) = omega (arith, length-drop (at + 1) l) in
    let w : at + j < length l = omega arith in
    rw (← get_or-drop (at + 1) l j d, add-one j) (paste-suc l at (drop (at + 1) l) j d w s)
