-- The rules' readers at a place of a text: the bytes that are unread there are `drop at s`. Assumes nothing.
use Rattle.std.specs.Prelude.{None, Some, Ok, Err}
use mathlib.Core.Path.{◌≡◌, refl, sym, ap, ◌∙◌}
use mathlib.Core.Bool.{Bool, true, false}
use mathlib.Core.List.{List, ◌∷◌}
use Prim.Native.Nat.{ℕ, suc, ◌+◌, ◌-◌, ◌*◌, ◌≤◌, ◌<◌}
use native.Mathlib.Numerals.{add-one}
use native.Mathlib.Omega.{arith}
use lib.Dec.{ltb}
use lib.ListN.{length, get_or, drop, length-drop, drop_of_length-le, get_or-eq_default}
use lib.Seq.{drop-cons, get_or-drop}
use borrow.Author.Tests.{le-leb, lt-leb, ltb-true, ltb-false}
use Rattle.rules.specs.Bytes.{in_table}
use Rattle.rules.specs.Numbers.{operators, operators_before_equal, joins, stops, joint_of, is_digit, digits}
use Rattle.rules.proofs.Laws.Numbers.{joint_one, joint_alone, joint_two, digits_more, digits_stop, digits_grow}
use Rattle.rules.specs.declared.Operator.{Operator}
use Rattle.rules.specs.declared.Refusal.TheVariants.{BadNumber}
use Rattle.number.specs.Expression.Reading.{digits_of}

-- the byte at a place within the text is the first unread one
pub unread : (s : List ℕ) (at b : ℕ) → at < length s → get_or s at 0 ≡ b → drop at s ≡ b ∷ drop (at + 1) s
unread s at b h e = simp (drop-cons s at 0 h, e, add-one)

-- a byte other than 0 stands within the text
within : (s : List ℕ) (at b : ℕ) → get_or s at 0 ≡ suc b → at < length s
within s at b e = go (ltb at (length s)) refl
  where
    go : (t : Bool) → ltb at (length s) ≡ t → at < length s
    go true h = ltb-true at (length s) h
    go false h = let z : get_or s at 0 ≡ 0 = get_or-eq_default s 0 (ltb-false at (length s) h) in absurd (omega arith)

module _ (s : List ℕ) (at b : ℕ) (e : get_or s at 0 ≡ suc b) where
  -- an operator of one byte; one that = could follow, and does not; one of two bytes; none
  pub one : (o : Operator) → in_table operators_before_equal (suc b) ≡ None → in_table operators (suc b) ≡ Some o → joins o (drop (at + 1) s) ≡ joint_of (drop at s)
  one o p q = let h = within s at b e in sym (ap joint_of (unread s at (suc b) h e) ∙ joint_one (suc b) (drop (at + 1) s) p ∙ rw q)

  pub alone : (o : Operator) → in_table operators (suc b) ≡ Some o → (get_or s (at + 1) 0 ≡ 61 → ⊥) → joins o (drop (at + 1) s) ≡ joint_of (drop at s)
  alone o q n =
      let h = within s at b e in
      let z : at + 1 + 0 ≡ at + 1 = omega arith in
      let f : get_or (drop (at + 1) s) 0 0 ≡ get_or s (at + 1) 0 = get_or-drop (at + 1) s 0 0 ∙ ap (λ (i : ℕ). get_or s i 0) z in
      sym (ap joint_of (unread s at (suc b) h e) ∙ joint_alone (suc b) (drop (at + 1) s) (λ k. n (sym f ∙ k)) ∙ rw q)

  pub two : (o : Operator) → in_table operators_before_equal (suc b) ≡ Some o → get_or s (at + 1) 0 ≡ 61 → joins o (drop (at + 2) s) ≡ joint_of (drop at s)
  two o p f =
      let h = within s at b e in
      let k = within s (at + 1) 60 f in
      let z : at + 1 + 1 ≡ at + 2 = omega arith in
      sym (ap joint_of (unread s at (suc b) h e ∙ ap (λ l. suc b ∷ l) (unread s (at + 1) 61 k f)) ∙ joint_two (suc b) o (drop (at + 1 + 1) s) p ∙ ap (λ (i : ℕ). joins o (drop i s)) z)

-- no operator, or the end
neither : (s : List ℕ) (at : ℕ) → at < length s → in_table operators_before_equal (get_or s at 0) ≡ None → in_table operators (get_or s at 0) ≡ None
    → stops (drop at s) ≡ joint_of (drop at s)
neither s at h p q =
    let u = unread s at (get_or s at 0) h refl in
    ap stops u ∙ sym (ap joint_of u ∙ joint_one (get_or s at 0) (drop (at + 1) s) p ∙ rw q)

over : (s : List ℕ) (at : ℕ) → length s ≤ at → stops (drop at s) ≡ joint_of (drop at s)
unfolding joint_of
over s at h = rw (drop_of_length-le s h)

pub none_at : (s : List ℕ) (at : ℕ) → in_table operators_before_equal (get_or s at 0) ≡ None → in_table operators (get_or s at 0) ≡ None → stops (drop at s) ≡ joint_of (drop at s)
none_at s at p q = go (ltb at (length s)) refl
  where
    go : (t : Bool) → ltb at (length s) ≡ t → stops (drop at s) ≡ joint_of (drop at s)
    go true e = neither s at (ltb-true at (length s) e) p q
    go false e = over s at (ltb-false at (length s) e)

-- one digit more; no digit; the end
pub turn : (s : List ℕ) (i n d : ℕ) → i < length s → is_digit (get_or s i 0) ≡ true → d ≡ get_or s i 0 - 48 → digits n (drop i s) ≡ digits (n * 10 + d) (drop (i + 1) s)
turn s i n d h e q = rw q (ap (digits n) (unread s i (get_or s i 0) h refl) ∙ digits_more n (get_or s i 0) (drop (i + 1) s) e)

pub stop : (s : List ℕ) (i n : ℕ) → i < length s → is_digit (get_or s i 0) ≡ false → digits n (drop i s) ≡ (n, drop i s)
stop s i n h e =
    let u = unread s i (get_or s i 0) h refl in
    ap (digits n) u ∙ digits_stop n (get_or s i 0) (drop (i + 1) s) e ∙ ap (λ l. (n, l)) (sym u)

pub end : (s : List ℕ) (i n : ℕ) → length s ≤ i → digits n (drop i s) ≡ (n, drop (length s) s)
unfolding digits
end s i n h = let k : length s ≤ length s = omega arith in rw (drop_of_length-le s h, drop_of_length-le s k)

-- from a stop of the reader to what it answers
pub read : (s : List ℕ) (at n i : ℕ) → i ≤ length s → n ≤ 1000000000 → digits 0 (drop at s) ≡ (n, drop i s) → Ok (n, i) ≡ digits_of s at
read s at n i h k e = rw (e, le-leb n 1000000000 k, length-drop) (let z : length s - (length s - i) ≡ i = omega arith in rw z)

pub huge : (s : List ℕ) (at n i : ℕ) → 1000000000 < n → digits 0 (drop at s) ≡ digits n (drop i s) → Err BadNumber ≡ digits_of s at
huge s at n i h e = rw (e, lt-leb (digits n (drop i s)).0 1000000000 (omega (arith, digits_grow n (drop i s))))
