-- That `nearest_of` is the nearest, and what rounding keeps, for any size and any pitch. Assumes nothing.
use Rattle.std.specs.Prelude.{◌≡◌, refl, Bool, true, false, cond, ℕ, zero, suc, ◌+◌, ◌*◌, ◌-◌, ◌/◌, ◌%◌, ◌≤◌, ◌<◌, ltb, eqb, ℤ, pos, negsuc, neg_ℤ, nat_abs, ◌-ℤ◌, ◌*ℤ◌}
use Rattle.std.proofs.Common.{sym, ap, ◌∙◌, zero-le, zero-mul, add-mul, le-mul_of_pos_right, div-le_self, div-add-mod', mod-lt, mul-div_cancel, arith, ltb-true, ltb-false, lt-ltb, ne_eqb}
use Rattle.std.proofs.Math.Nat.{mod-zero, mul-mod_left}
use Rattle.std.proofs.Math.IntN.{neg_ℤ-neg_ℤ, neg_ℤ-+ℤ}
use Rattle.measure.specs.Pitches.{Divides, Whole}
use Rattle.measure.specs.Rounding.{half_up, nearest_of, cells_of, rows_of, units_of_cells, units_of_rows}
use Rattle.measure.specs.declared.Cells.{Cells}
use Rattle.measure.specs.declared.Rows.{Rows}
use Rattle.measure.specs.declared.Pitch.{Pitch}

-- k sizes are nearest to z: at most half a size away, and at just half a size they are farther from zero than z
pub record Nearest (size : ℕ) (z k : ℤ) : Type 0 where
  pub close : 2 * nat_abs (k *ℤ pos size -ℤ z) ≤ size
  pub away : 2 * nat_abs (k *ℤ pos size -ℤ z) ≡ size → nat_abs z < nat_abs (k *ℤ pos size)

-- signs
pub abs_neg : (a : ℤ) → nat_abs (neg_ℤ a) ≡ nat_abs a
abs_neg (pos zero) = refl
abs_neg (pos (suc n)) = refl
abs_neg (negsuc n) = refl

neg_mul : (k : ℤ) (s : ℕ) → neg_ℤ k *ℤ pos s ≡ neg_ℤ (k *ℤ pos s)
neg_mul (pos zero) s = rw zero-mul
neg_mul (pos (suc n)) s = refl
neg_mul (negsuc n) s = sym (neg_ℤ-neg_ℤ (pos (suc n * s)))

gap_by : (a b : ℕ) (t : Bool) → ltb a b ≡ t → nat_abs (cond t (negsuc (b - suc a)) (pos (a - b))) ≡ (a - b) + (b - a)
gap_by a b true e = let h = ltb-true a b e in omega arith
gap_by a b false e = let h = ltb-false a b e in omega arith

gap : (a b : ℕ) → nat_abs (pos a -ℤ pos b) ≡ (a - b) + (b - a)
gap a zero = omega arith
gap a (suc b) = gap_by a (suc b) (ltb a (suc b)) refl

-- q sizes are nearest to n, a half counting as one, and q is no more than n
record Counted (size n q : ℕ) : Type 0 where
  low : 2 * (q * size) ≤ 2 * n + size
  high : 2 * n < 2 * (q * size) + size
  fewer : q ≤ n

counted_by : (size n : ℕ) (t : Bool) → 0 < size → ltb (2 * (n % size)) size ≡ t → Counted size n (cond t (n / size) (n / size + 1))
counted_by size n true h e =
    let l = ltb-true (2 * (n % size)) size e in
    let d = div-add-mod' n size in
    record { low = omega arith; high = omega arith; fewer = div-le_self n size }
counted_by size n false h e =
    let l = ltb-false (2 * (n % size)) size e in
    let d = div-add-mod' n size in
    let m = mod-lt n h in
    let a = add-mul (n / size) 1 size in
    record { low = omega arith; high = omega arith; fewer = omega (arith, le-mul_of_pos_right (n / size) h) }

some : (size : ℕ) → 0 < size → eqb size 0 ≡ false
some size h = ne_eqb size 0 (λ e. omega arith)

counted : (size n : ℕ) → 0 < size → Counted size n (half_up size n)
unfolding half_up
counted size n h = rw (some size h) (counted_by size n (ltb (2 * (n % size)) size) h refl)

pub half_up_fewer : (size n : ℕ) → half_up size n ≤ n
unfolding half_up
half_up_fewer zero n = zero-le
half_up_fewer (suc s) n = (counted (suc s) n (omega arith)).fewer

whole : (size n : ℕ) → 0 < size → half_up size (n * size) ≡ n
unfolding half_up
whole size n h = rw (some size h, mul-mod_left, lt-ltb (2 * 0) size h, mul-div_cancel n h)

none : (size : ℕ) → half_up size 0 ≡ 0
none size = omega (arith, half_up_fewer size 0)

pub odd : (size : ℕ) (z : ℤ) → nearest_of size (neg_ℤ z) ≡ neg_ℤ (nearest_of size z)
odd size (pos zero) = rw none
odd size (pos (suc n)) = refl
odd size (negsuc n) = sym (neg_ℤ-neg_ℤ (pos (half_up size (suc n))))

-- a count is no larger than its units
pub no_larger : (size : ℕ) (z : ℤ) → nat_abs (nearest_of size z) ≤ nat_abs z
no_larger size (pos n) = half_up_fewer size n
no_larger size (negsuc n) = rw abs_neg (half_up_fewer size (suc n))

module _ (size : ℕ) (h : 0 < size) where
  -- whole sizes are counted as they are
  pub exact : (k : ℤ) → nearest_of size (k *ℤ pos size) ≡ k
  exact (pos n) = ap pos (whole size n h)
  exact (negsuc n) = odd size (pos (suc n * size)) ∙ rw (whole size (suc n) h)

  above : (n : ℕ) → Nearest size (pos n) (nearest_of size (pos n))
  above n =
      let c = counted size n h in
      let g = gap (half_up size n * size) n in
      record { close = omega arith; away = λ e. omega arith }

  mirror : (z k : ℤ) → nat_abs (neg_ℤ k *ℤ pos size -ℤ neg_ℤ z) ≡ nat_abs (k *ℤ pos size -ℤ z)
  mirror z k = rw (neg_mul, ← neg_ℤ-+ℤ, abs_neg)

  below : (z k : ℤ) → Nearest size z k → Nearest size (neg_ℤ z) (neg_ℤ k)
  below z k f = record {
    close = rw (mirror z k) f.close;
    away = λ e. rw (neg_mul k size, abs_neg z, abs_neg (k *ℤ pos size)) (f.away (rw (mirror z k) at e));
  }

  -- Sanity.
  pub is_nearest : (z : ℤ) → Nearest size z (nearest_of size z)
  is_nearest (pos n) = above n
  is_nearest (negsuc n) = below (pos (suc n)) (nearest_of size (pos (suc n))) (above (suc n))

inch_of : (size : ℕ) → Divides size → nearest_of size (pos 240) *ℤ pos size ≡ pos 240
inch_of zero d = absurd (omega (arith, mod-zero 240))
inch_of (suc s) d =
    let e : 240 / suc s * suc s ≡ 240 = omega (arith, div-add-mod' 240 (suc s)) in
    ap (λ (n : ℕ). nearest_of (suc s) (pos n) *ℤ pos (suc s)) (sym e) ∙ rw (whole (suc s) (240 / suc s) (omega arith)) (ap pos e)

module _ (p : Pitch) where
  -- Sanity: cells and rows come back from their units
  pub cells_back : 0 < p.cell → (c : Cells) → cells_of p (units_of_cells p c) ≡ c
  cells_back h c = rw (exact p.cell h c.0)

  -- Sanity.
  pub rows_back : 0 < p.row → (r : Rows) → rows_of p (units_of_rows p r) ≡ r
  rows_back h r = rw (exact p.row h r.0)

  -- Sanity: an inch is whole cells and whole rows
  pub inch_across : Whole p → units_of_cells p (cells_of p (pos 240)) ≡ pos 240
  inch_across w = inch_of p.cell w.cells

  -- Sanity.
  pub inch_down : Whole p → units_of_rows p (rows_of p (pos 240)) ≡ pos 240
  inch_down w = inch_of p.row w.rows
