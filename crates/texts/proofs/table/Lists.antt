-- Laws of columns and sums, over plain lists. Assumes nothing.
use mathlib.Core.Path.{◌≡◌, refl, sym, ap, ◌∙◌}
use mathlib.Core.List.{List, [], ◌∷◌, ◌++◌}
use Prim.Native.Nat.{ℕ, zero, suc, ◌+◌, ◌-◌, ◌≤◌, ◌<◌}
use native.Mathlib.Nat.{add_assoc, zero-add}
use native.Mathlib.Numerals.{add-one}
use native.Mathlib.Omega.{arith}
use lib.ListN.{length, take, drop, get_or, set}
use lib.Seq.{take-add, take-take, take-nil, drop-drop, take_at, drop_at, length-take-le, paste, paste-suc, take-paste, drop-paste}
use Rattle.std.specs.List.{sum}
use Rattle.std.proofs.lemmas.List.Sums.{sum_by-cons}
use Rattle.texts.specs.Table.Table.{zip_with, total_length}
use Rattle.texts.specs.Table.Changes.{without, closed_up}

-- two columns of one length

module _ {A B C : Type 0} (f : A → B → C) where
  -- a row that is closed up in both is closed up in the whole
  pub zip_closed : (xs : List A) (ys : List B) (i k : ℕ) → length xs ≡ length ys → zip_with f (closed_up xs i k) (closed_up ys i k) ≡ closed_up (zip_with f xs ys) i k
  unfolding zip_with closed_up
  zip_closed [] ys i k e = refl
  zip_closed (x ∷ xs) [] i k e = absurd (omega arith)
  zip_closed (x ∷ xs) (y ∷ ys) (suc i) k e = ap (λ l. f x y ∷ l) (zip_closed xs ys i k (omega arith))
  zip_closed (x ∷ xs) (y ∷ ys) zero zero e = refl
  zip_closed (x ∷ []) (y ∷ []) zero (suc k) e = refl
  zip_closed (x ∷ []) (y ∷ v ∷ ys) zero (suc k) e = absurd (omega arith)
  zip_closed (x ∷ u ∷ xs) (y ∷ []) zero (suc k) e = absurd (omega arith)
  zip_closed (x ∷ u ∷ xs) (y ∷ v ∷ ys) zero (suc k) e = ap (λ l. f u v ∷ l) (zip_closed (u ∷ xs) (v ∷ ys) zero k (omega arith))

-- a column that is closed up

module _ {A : Type 0} where
  -- the rows behind the place are copied to it
  closed_copied : (l : List A) (i k m : ℕ) → m ≡ i + k → m < length l → closed_up l i k ≡ take i l ++ take k (drop (suc i) l) ++ drop m l
  unfolding closed_up
  closed_copied [] i k m e h = absurd (omega arith)
  closed_copied (x ∷ l) (suc i) k zero e h = absurd (omega arith)
  closed_copied (x ∷ l) (suc i) k (suc m) e h = ap (λ t. x ∷ t) (closed_copied l i k m (omega arith) (omega arith))
  closed_copied (x ∷ l) zero zero zero e h = refl
  closed_copied (x ∷ l) zero zero (suc m) e h = absurd (omega arith)
  closed_copied (x ∷ l) zero (suc k) zero e h = absurd (omega arith)
  closed_copied (x ∷ []) zero (suc k) (suc m) e h = absurd (omega arith)
  closed_copied (x ∷ y ∷ l) zero (suc k) (suc m) e h = ap (λ t. y ∷ t) (closed_copied (y ∷ l) zero k m (omega arith) (omega arith))

  -- the same in the numbers of the code
  pub closed_paste : (l : List A) (i n : ℕ) → i < n → n ≤ length l → paste l i (drop (i + 1) l) (n - (i + 1)) ≡ closed_up l i (n - 1 - i)
  closed_paste l i n h k =
      let e : n - (i + 1) ≡ n - 1 - i = omega arith in
      rw (e, add-one i) (sym (closed_copied l i (n - 1 - i) (i + (n - 1 - i)) refl (omega arith)))

  pub closed_length : (l : List A) (i k : ℕ) → length (closed_up l i k) ≡ length l
  unfolding closed_up
  closed_length [] i k = refl
  closed_length (x ∷ l) (suc i) k = ap suc (closed_length l i k)
  closed_length (x ∷ l) zero zero = refl
  closed_length (x ∷ []) zero (suc k) = refl
  closed_length (x ∷ y ∷ l) zero (suc k) = ap suc (closed_length (y ∷ l) zero k)

  -- what is left is the rows without the one at the place
  closed_take : (l : List A) (i k n : ℕ) → i + k ≡ n → n < length l → take n (closed_up l i k) ≡ without i (take (suc n) l)
  unfolding closed_up
  closed_take [] i k n e h = absurd (omega arith)
  closed_take (x ∷ l) (suc i) k zero e h = absurd (omega arith)
  closed_take (x ∷ l) (suc i) k (suc n) e h = ap (λ t. x ∷ t) (closed_take l i k n (omega arith) (omega arith))
  closed_take (x ∷ l) zero zero zero e h = refl
  closed_take (x ∷ l) zero zero (suc n) e h = absurd (omega arith)
  closed_take (x ∷ l) zero (suc k) zero e h = absurd (omega arith)
  closed_take (x ∷ []) zero (suc k) (suc n) e h = absurd (omega arith)
  closed_take (x ∷ y ∷ l) zero (suc k) (suc n) e h = ap (λ t. y ∷ t) (closed_take (y ∷ l) zero k n (omega arith) (omega arith))

  -- the same in the numbers of the code
  pub closed_rows : (l : List A) (i n : ℕ) → i < n → n ≤ length l → take (n - 1) (closed_up l i (n - 1 - i)) ≡ without i (take n l)
  closed_rows l i n h k =
      let e : n ≡ suc (n - 1) = omega arith in
      closed_take l i (n - 1 - i) (n - 1) (omega arith) (omega arith) ∙ ap (λ m. without i (take m l)) (sym e)

  -- parts of two lists that agree

  -- the part behind a front
  pub drop_take : (l : List A) (a b : ℕ) → drop a (take (a + b) l) ≡ take b (drop a l)
  drop_take l a b = rw (take-add a b l) (go l a)
    where
      go : (l : List A) (a : ℕ) → drop a (take a l ++ take b (drop a l)) ≡ take b (drop a l)
      go l zero = refl
      go [] (suc a) = rw (take-nil {A = A} b)
      go (x ∷ l) (suc a) = go l a

  pub front_same : (l m : List A) (a b : ℕ) → take (a + b) l ≡ take (a + b) m → take a l ≡ take a m
  front_same l m a b e = sym (take-take a (a + b) l (omega arith)) ∙ ap (take a) e ∙ take-take a (a + b) m (omega arith)

  pub rest_same : (l m : List A) (a b : ℕ) → take (a + b) l ≡ take (a + b) m → take b (drop a l) ≡ take b (drop a m)
  rest_same l m a b e = sym (drop_take l a b) ∙ ap (drop a) e ∙ drop_take m a b

  -- what is the same from a place on is so from a later one on
  pub drop_more : (l m : List A) (a b : ℕ) → drop a l ≡ drop a m → a ≤ b → drop b l ≡ drop b m
  drop_more l m a b e h =
      let f : b ≡ a + (b - a) = omega arith in
      rw (f, ← drop-drop (b - a) a l, ← drop-drop (b - a) a m) (ap (drop (b - a)) e)

  -- a part that is pasted in

  module _ (d s : List A) (at n : ℕ) (h : at ≤ length d) (k : n ≤ length s) where
    pub paste_front : take at (paste d at s n) ≡ take at d
    paste_front =
        sym (take-take at (at + n) (paste d at s n) (omega arith)) ∙ ap (take at) (take-paste d at s n h k)
        ∙ take_at (take at d) (take n s) at (length-take-le at d h)

    pub paste_part : take n (drop at (paste d at s n)) ≡ take n s
    paste_part =
        sym (drop_take (paste d at s n) at n) ∙ ap (drop at) (take-paste d at s n h k)
        ∙ drop_at (take at d) (take n s) at (length-take-le at d h)

    pub paste_past : (m : ℕ) → at + n ≤ m → drop m (paste d at s n) ≡ drop m d
    paste_past m l = drop_more (paste d at s n) d (at + n) m (drop-paste d at s n h k) l

-- one more is copied
pub copy_step : {A : Type 0} (d : List A) (at : ℕ) (s : List A) (j : ℕ) (x : A) → at + j < length d → j < length s → x ≡ get_or s j x → set (paste d at s j) (at + j) x ≡ paste d at s (j + 1)
copy_step d at s j x h k e = ap (set (paste d at s j) (at + j)) e ∙ paste-suc d at s j x h k ∙ ap (paste d at s) (sym (add-one j))

-- sums

pub sum_append : (xs ys : List ℕ) → total_length (xs ++ ys) ≡ total_length xs + total_length ys
unfolding total_length
sum_append [] ys = sym (zero-add (total_length ys))
sum_append (x ∷ xs) ys = rw (sum_append xs ys) (sym (add_assoc x (total_length xs) (total_length ys)))

-- one length more
pub sum_step : (l : List ℕ) (i : ℕ) → total_length (take (i + 1) l) ≡ total_length (take i l) + get_or l i 0
unfolding total_length
sum_step l i = rw (add-one i) (go l i)
  where
    go : (l : List ℕ) (i : ℕ) → total_length (take (suc i) l) ≡ total_length (take i l) + get_or l i 0
    go [] zero = refl
    go [] (suc i) = refl
    go (x ∷ l) zero = omega arith
    go (x ∷ l) (suc i) = omega (arith, go l i)

pub sum_mono : (l : List ℕ) (i j : ℕ) → i ≤ j → total_length (take i l) ≤ total_length (take j l)
sum_mono l i j h =
    let e : j ≡ i + (j - i) = omega arith in
    rw (e, take-add i (j - i) l, sum_append (take i l) (take (j - i) (drop i l))) (omega arith)

-- it is the sum of std
pub total_sum : (l : List ℕ) → sum l ≡ total_length l
unfolding total_length
total_sum [] = refl
total_sum (x ∷ l) = sum_by-cons (λ (n : ℕ). n) x l ∙ ap (λ (n : ℕ). x + n) (total_sum l)

-- the sum without one length
pub sum_without : (l : List ℕ) (i : ℕ) → total_length (without i l) + get_or l i 0 ≡ total_length l
unfolding total_length
sum_without [] zero = refl
sum_without [] (suc i) = refl
sum_without (x ∷ l) zero = omega arith
sum_without (x ∷ l) (suc i) = omega (arith, sum_without l i)
