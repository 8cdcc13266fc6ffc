-- The cases of the rules' expression and term, at a place of a text. Assumes nothing.
use Rattle.std.specs.Prelude.{Ok, Err, Some, None}
use mathlib.Core.Path.{◌≡◌, refl, sym, ap, ◌∙◌}
use mathlib.Core.Bool.{Bool, true, false}
use mathlib.Core.List.{List, [], ◌∷◌}
use Prim.Native.Nat.{ℕ, zero, suc, ◌+◌, ◌≤◌, ◌<◌}
use native.Mathlib.Omega.{arith}
use lib.Dec.{ltb}
use lib.ListN.{length, get_or, drop, drop_of_length-le}
use lib.IntN.{ℤ, nat_abs, neg_ℤ}
use borrow.Author.Tests.{ne_eqb, ltb-true, ltb-false}
use Rattle.measure.specs.declared.Pitch.{Pitch}
use Rattle.measure.specs.declared.Scale.{Scale}
use Rattle.rules.specs.Bytes.{byte, first_where, or_other}
use Rattle.rules.specs.Laws.Tables.{absent}
use Rattle.rules.specs.Refusals.{value, bad}
use Rattle.rules.specs.Laws.Refusals.{of_value}
use Rattle.rules.specs.Numbers.{operate, joint_of, is_digit, Start, literal, opens, plus, minus, no_term, start_by, start_of, parenthesized, term, onward}
use Rattle.rules.specs.Numbers as rules
use Rattle.rules.proofs.Laws.Numbers.{start_digit, start_other, start_none, term_bounded}
use Rattle.rules.specs.declared.Operator.{Operator}
use Rattle.rules.specs.declared.Refusal.{Refusal}
use Rattle.rules.specs.declared.Refusal.TheVariants.{BadNumber}
use Rattle.rules.specs.Results.{refusal_number}
use Rattle.number.specs.Expression.Reading.{Joint, joint_in, GoodJoint, Read, read_of, Forward, literal_term}
use Rattle.number.specs.Expression.Meaning.{expression_from, TermIs, ExpressionIs}
use Rattle.number.proofs.expression.Places.{unread}

pub record JointIs (s : List ℕ) (i : ℕ) (j : Joint) : Type 0 where
  pub is : joint_in s i j ≡ joint_of (drop i s)
  pub good : GoodJoint (length s) i j

-- what the rules give from i on, after v, is what they give from the start
pub record From (p : Pitch) (d : Scale) (s : List ℕ) (at left : ℕ) (v : ℤ) (i : ℕ) : Type 0 where
  pub good : Forward (length s) at (Ok (v, i))
  pub is : (n : ℕ) → length s < n + at → (m : ℕ) × (length s < m + i) × (expression_from p d n left (drop at s) ≡ onward p d m left v (joint_of (drop i s)))

module _ {p : Pitch} {d : Scale} {s : List ℕ} where
  made : {at left : ℕ} {r : Read} → Forward (length s) at r → ((n : ℕ) → length s < n + at → read_of s r ≡ expression_from p d n left (drop at s)) → ExpressionIs p d s at left r
  made g e = record { outright = e (suc (length s)) (omega arith); good = g; is = e }

  -- from what holds of the rest at each count of one more, to what holds of the whole
  ended : {at left i : ℕ} {v : ℤ} {r : Read} → From p d s at left v i → Forward (length s) at r
      → ((m : ℕ) → length s < suc m + i → onward p d (suc m) left v (joint_of (drop i s)) ≡ read_of s r) → ExpressionIs p d s at left r
  ended {at} {left} {i} {v} {r} f g h = made g (λ n k. let q = f.is n k in sym (q.2 ∙ go q.0 q.1))
    where
      go : (m : ℕ) → length s < m + i → onward p d m left v (joint_of (drop i s)) ≡ read_of s r
      go zero k = absurd (omega (arith, f.good.1))
      go (suc m) k = h m k

  module _ {at left : ℕ} where
    pub start : {v : ℤ} {next : ℕ} → TermIs p d s at left (Ok (v, next)) → From p d s at left v next
    start e = record { good = e.good; is = λ n h. (n, omega (arith, e.good), rw (← e.is n h)) }

    module _ {v : ℤ} {i : ℕ} (f : From p d s at left v i) where
      pub done : JointIs s i None → ExpressionIs p d s at left (Ok (v, i))
      unfolding term
      done o = ended f f.good (λ m k. rw (← o.is))

      module _ {op : Operator} {w : ℕ} (o : JointIs s i (Some (op, w))) where
        pub cut : {r : Refusal} → TermIs p d s (i + w) left (Err r) → ExpressionIs p d s at left (Err r)
        unfolding term
        cut e = ended f tt (λ m k. rw (← o.is, ← e.is m (omega (arith, o.good))))

        module _ {x : ℤ} {next : ℕ} (e : TermIs p d s (i + w) left (Ok (x, next))) where
          pub refused : {r : Refusal} → bad (refusal_number r) ≡ operate op v x → ExpressionIs p d s at left (Err r)
          unfolding term
          refused b = ended f tt (λ m k. rw (← o.is, ← e.is m (omega (arith, o.good)), ← b))

          pub turn : {y : ℤ} → value y ≡ operate op v x → From p d s at left y next
          unfolding term
          turn {y} b = record {
            good = (omega (arith, f.good, o.good, e.good), e.good.1);
            is = λ n h. let q = f.is n h in go (expression_from p d n left (drop at s)) q.0 q.1 q.2;
          }
            where
              go : (z : rules.Read) (m : ℕ) → length s < m + i → z ≡ onward p d m left v (joint_of (drop i s))
                  → (k : ℕ) × (length s < k + next) × (z ≡ onward p d k left y (joint_of (drop next s)))
              go z zero k q = absurd (omega (arith, f.good.1))
              go z (suc m) k q = (m, omega (arith, o.good, e.good), q ∙ rw (← o.is, ← e.is m (omega (arith, o.good)), ← b))

-- a term, by the byte where it starts
starts_opens : (s : List ℕ) (at : ℕ) → at < length s → get_or s at 0 ≡ 40 → start_of (drop at s) ≡ opens (drop (at + 1) s)
unfolding start_of first_where
starts_opens s at h e = ap start_of (unread s at 40 h e)

starts_minus : (s : List ℕ) (at : ℕ) → at < length s → get_or s at 0 ≡ 45 → start_of (drop at s) ≡ minus (drop (at + 1) s)
unfolding start_of first_where
starts_minus s at h e = ap start_of (unread s at 45 h e)

starts_plus : (s : List ℕ) (at : ℕ) → at < length s → get_or s at 0 ≡ 43 → start_of (drop at s) ≡ plus (drop (at + 1) s)
unfolding start_of first_where
starts_plus s at h e = ap start_of (unread s at 43 h e)

-- a closing parenthesis, or none
shuts : (s : List ℕ) (v : ℤ) (next : ℕ) → next < length s → get_or s next 0 ≡ 41 → parenthesized v (drop next s) ≡ value (v, drop (next + 1) s)
shuts s v next h e = ap (parenthesized v) (unread s next 41 h e)

shuts_not : (s : List ℕ) (v : ℤ) (next : ℕ) → (get_or s next 0 ≡ 41 → ⊥) → parenthesized v (drop next s) ≡ bad 6
shuts_not s v next e = go (ltb next (length s)) refl
  where
    go : (t : Bool) → ltb next (length s) ≡ t → parenthesized v (drop next s) ≡ bad 6
    go true h = ap (parenthesized v) (unread s next (get_or s next 0) (ltb-true next (length s) h) refl) ∙ rw (ne_eqb (get_or s next 0) 41 e)
    go false h = ap (parenthesized v) (drop_of_length-le s (ltb-false next (length s) h))

-- a term that is neither parenthesised nor signed is a literal or none
module _ (p : Pitch) (d : Scale) where
  plain_byte : (left b : ℕ) (l : List ℕ) → (b ≡ 40 → ⊥) → (b ≡ 43 → ⊥) → (b ≡ 45 → ⊥) → (m : ℕ) → term p d (suc m) left (start_by false b l) ≡ literal_term p d (start_by false b l)
  unfolding term first_where
  plain_byte left b l f g h m =
      let e : start_by false b l ≡ no_term =
      ap (λ o. or_other o no_term) (absent ((byte "(", opens l) ∷ (byte "+", plus l) ∷ (byte "-", minus l) ∷ []) b (ne_eqb b 40 f, (ne_eqb b 43 g, (ne_eqb b 45 h, tt)))) in
      rw e

  plain_start : (left : ℕ) (s : List ℕ) (at : ℕ) → (get_or s at 0 ≡ 40 → ⊥) → (get_or s at 0 ≡ 43 → ⊥) → (get_or s at 0 ≡ 45 → ⊥)
      → (m : ℕ) → term p d (suc m) left (start_of (drop at s)) ≡ literal_term p d (start_of (drop at s))
  unfolding term
  plain_start left s at f g h m = go (ltb at (length s)) refl
    where
      on : (x y : Start) → x ≡ y → term p d (suc m) left y ≡ literal_term p d y → term p d (suc m) left x ≡ literal_term p d x
      on x y e k = rw e k

      digit : (t : Bool) → is_digit (get_or s at 0) ≡ t → at < length s → term p d (suc m) left (start_of (drop at s)) ≡ literal_term p d (start_of (drop at s))
      digit true e k =
          on (start_of (drop at s)) (literal (get_or s at 0 ∷ drop (at + 1) s)) (ap start_of (unread s at (get_or s at 0) k refl) ∙ start_digit (get_or s at 0) (drop (at + 1) s) e) refl
      digit false e k =
          on (start_of (drop at s)) (start_by false (get_or s at 0) (drop (at + 1) s)) (ap start_of (unread s at (get_or s at 0) k refl) ∙ start_other (get_or s at 0) (drop (at + 1) s) e)
          (plain_byte left (get_or s at 0) (drop (at + 1) s) f g h m)

      go : (t : Bool) → ltb at (length s) ≡ t → term p d (suc m) left (start_of (drop at s)) ≡ literal_term p d (start_of (drop at s))
      go true k = digit (is_digit (get_or s at 0)) refl (ltb-true at (length s) k)
      go false k = on (start_of (drop at s)) no_term (ap start_of (drop_of_length-le s (ltb-false at (length s) k)) ∙ start_none) refl

module _ {p : Pitch} {d : Scale} where
  module _ {s : List ℕ} {at left : ℕ} (h : at ≤ length s) where
    named : {r : Read} → Forward (length s) at r → ((n : ℕ) → length s < suc n + at → read_of s r ≡ term p d (suc n) left (start_of (drop at s))) → TermIs p d s at left r
    named {r} g e = record { good = g; is = go }
      where
        go : (n : ℕ) → length s < n + at → read_of s r ≡ term p d n left (start_of (drop at s))
        go zero k = absurd (omega arith)
        go (suc n) k = e n k

    pub plain : {r : Read} → (get_or s at 0 ≡ 40 → ⊥) → (get_or s at 0 ≡ 43 → ⊥) → (get_or s at 0 ≡ 45 → ⊥)
        → read_of s r ≡ literal_term p d (start_of (drop at s)) → Forward (length s) at r → TermIs p d s at left r
    plain f g k e w = named w (λ n i. e ∙ sym (plain_start p d left s at f g k n))

    module _ (k : at < length s) where
      pub minus_cut : get_or s at 0 ≡ 45 → {r : Refusal} → TermIs p d s (at + 1) left (Err r) → TermIs p d s at left (Err r)
      unfolding term
      minus_cut b e = named tt (λ n i. rw (starts_minus s at k b, ← e.is n (omega arith)))

      pub minus_is : get_or s at 0 ≡ 45 → {v : ℤ} {next : ℕ} → TermIs p d s (at + 1) left (Ok (v, next)) → TermIs p d s at left (Ok (neg_ℤ v, next))
      unfolding term
      minus_is b e = named (omega (arith, e.good), e.good.1) (λ n i. rw (starts_minus s at k b, ← e.is n (omega arith)))

      pub plus_is : get_or s at 0 ≡ 43 → {r : Read} → TermIs p d s (at + 1) left r → TermIs p d s at left r
      unfolding term
      plus_is b {r} e = named (looser r e.good) (λ n i. e.is n (omega arith) ∙ rw (starts_plus s at k b))
        where
          looser : (r : Read) → Forward (length s) (at + 1) r → Forward (length s) at r
          looser (Ok (v, next)) g = (omega (arith, g), g.1)
          looser Refused g = tt

      pub deep : get_or s at 0 ≡ 40 → left ≡ 0 → TermIs p d s at left (Err BadNumber)
      unfolding term
      deep b z = named tt (λ n i. rw (starts_opens s at k b, z))

      module _ (b : get_or s at 0 ≡ 40) {fewer : ℕ} (z : left ≡ suc fewer) where
        pub inner : {r : Refusal} → ExpressionIs p d s (at + 1) fewer (Err r) → TermIs p d s at left (Err r)
        unfolding term
        inner e = named tt (λ n i. rw (starts_opens s at k b, z, ← e.is n (omega arith)))

        pub shut : {v : ℤ} {next : ℕ} → ExpressionIs p d s (at + 1) fewer (Ok (v, next)) → get_or s next 0 ≡ 41 → next < length s → TermIs p d s at left (Ok (v, next + 1))
        unfolding term
        shut {v} {next} e f l = named (omega (arith, e.good), omega arith) (λ n i. rw (starts_opens s at k b, z, ← e.is n (omega arith), shuts s v next l f))

        pub unshut : {v : ℤ} {next : ℕ} → ExpressionIs p d s (at + 1) fewer (Ok (v, next)) → (get_or s next 0 ≡ 41 → ⊥) → TermIs p d s at left (Err BadNumber)
        unfolding term
        unshut {v} {next} e f = named tt (λ n i. rw (starts_opens s at k b, z, ← e.is n (omega arith), shuts_not s v next f))

  -- a term's value is within ±1,000,000,000
  pub small : {s : List ℕ} {at left : ℕ} {v : ℤ} {next : ℕ} → TermIs p d s at left (Ok (v, next)) → nat_abs v ≤ 1000000000
  small {s} {at} {left} e = of_value (term_bounded p d (suc (length s)) left (start_of (drop at s))) (sym (e.is (suc (length s)) (omega arith)))
