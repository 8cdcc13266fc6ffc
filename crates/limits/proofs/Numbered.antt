-- Every refusal of an argument's value is numbered 2 to 12. Assumes nothing.
use Rattle.std.specs.Prelude.{Bool, true, false, not, List, [], ◌∷◌, ℕ, zero, suc, leb, eqb, length, ℤ, pos, nat_abs, Option, Some, None}
use Rattle.measure.specs.declared.Pitch.{Pitch}
use Rattle.measure.specs.declared.Scale.{Scale}
use Rattle.measure.specs.declared.Scale.TheVariants.{Em, LineSpace, Unit as BasicUnit}
use Rattle.measure.specs.Scales.{scale_of, literal_of}
use Rattle.rules.specs.declared.Operator.{Operator}
use Rattle.rules.specs.declared.Operator.TheVariants.{Add, Subtract, Multiply, Divide, Remainder, Less, Greater, AtMost, AtLeast, Equal, And, Or}
use Rattle.rules.specs.Bytes.{byte}
use Rattle.rules.specs.Refusals.{Judged, value, bad, judge, ◌>>=◌}
use Rattle.rules.specs.Numbers.{Read, within, truth, divisor, operate, Joint, joins, stops, joint_of, digits, scaled, scaled_or, scaled_by, literal_at, Start, literal, opens, plus, minus, no_term, start_of, parenthesized, expression_by, whole, term, onward, evaluate, cells, rows, units}
use Rattle.limits.specs.Within.{Refusal}
use Rattle.limits.proofs.Parts.{is_6}

-- a value's refusal, if it is refused
abbrev pub Numbered : {A : Type 0} → Judged A → Type 0
Numbered (value a) = Unit
Numbered (bad n) = Refusal n

-- a judged value's refusal
pub judge_numbered : {A : Type 0} (t : Bool) (n : ℕ) (a : A) → Refusal n → Numbered (judge t n a)
judge_numbered true n a r = tt
judge_numbered false n a r = r

-- a value's refusal, or that of what follows it
pub after_numbered : {A B : Type 0} (j : Judged A) (k : A → Judged B) → Numbered j → ((a : A) → Numbered (k a)) → Numbered (j >>= k)
after_numbered (value a) k h f = f a
after_numbered (bad n) k h f = h

-- numbers
pub within_numbered : (z : ℤ) → Numbered (within z)
within_numbered z = judge_numbered (leb (nat_abs z) 1000000000) 6 z is_6

truth_numbered : (t : Bool) → Numbered (truth t)
truth_numbered true = tt
truth_numbered false = tt

divisor_numbered : (z : ℤ) → Numbered (divisor z)
divisor_numbered z = judge_numbered (not (eqb (nat_abs z) 0)) 6 z is_6

operate_numbered : (o : Operator) (a b : ℤ) → Numbered (operate o a b)
operate_numbered Add a b = search within_numbered
operate_numbered Subtract a b = search within_numbered
operate_numbered Multiply a b = search within_numbered
operate_numbered Divide a b = after_numbered (divisor b) _ (divisor_numbered b) (λ d. search within_numbered)
operate_numbered Remainder a b = after_numbered (divisor b) _ (divisor_numbered b) (λ d. search within_numbered)
operate_numbered Less a b = search truth_numbered
operate_numbered Greater a b = search truth_numbered
operate_numbered AtMost a b = search truth_numbered
operate_numbered AtLeast a b = search truth_numbered
operate_numbered Equal a b = search truth_numbered
operate_numbered And a b = search truth_numbered
operate_numbered Or a b = search truth_numbered

closed_numbered : (v : ℤ) (l : List ℕ) → Numbered (parenthesized v l)
closed_numbered v [] = is_6
closed_numbered v (b ∷ l) = judge_numbered (eqb b (byte ")")) 6 (v, l) is_6

whole_numbered : (v : ℤ) (l : List ℕ) → Numbered (whole v l)
whole_numbered v [] = tt
whole_numbered v (b ∷ l) = is_6

expression_numbered : (t : Start → Read) (o : ℤ → Joint → Read) (l : List ℕ) → ((s : Start) → Numbered (t s))
    → ((v : ℤ) (j : Joint) → Numbered (o v j)) → Numbered (expression_by t o l)
expression_numbered t o l f g = after_numbered (t (start_of l)) _ (f (start_of l)) (λ x. g x.0 (joint_of x.1))

module _ (p : Pitch) where
  scaled_numbered : (s : Scale) (n : ℕ) (l : List ℕ) → Numbered (scaled p s n l)
  scaled_numbered s n l = after_numbered (within (pos (literal_of p s n))) _ (within_numbered (pos (literal_of p s n))) (λ z. tt)

  scaled_or_numbered : (m : Option Scale) (d : Scale) (n b : ℕ) (l : List ℕ) → Numbered (scaled_or p m d n b l)
  scaled_or_numbered (Some s) d n b l = scaled_numbered s n l
  scaled_or_numbered None d n b l = scaled_numbered d n (b ∷ l)

  scaled_by_numbered : (d : Scale) (n : ℕ) (l : List ℕ) → Numbered (scaled_by p d n l)
  scaled_by_numbered d n [] = scaled_numbered d n []
  scaled_by_numbered d n (b ∷ l) = scaled_or_numbered (scale_of b) d n b l

  literal_numbered : (d : Scale) (l : List ℕ) → Numbered (literal_at p d l)
  unfolding digits
  literal_numbered d l = scaled_by_numbered d (digits 0 l).0 (digits 0 l).1

module _ (p : Pitch) (d : Scale) where
  mutual
    unfolding term

    term_numbered : (n left : ℕ) (x : Start) → Numbered (term p d n left x)
    term_numbered zero left x = is_6
    term_numbered (suc n) left no_term = is_6
    term_numbered (suc n) left (literal l) = literal_numbered p d l
    term_numbered (suc n) left (plus l) = term_numbered n left (start_of l)
    term_numbered (suc n) left (minus l) = after_numbered (term p d n left (start_of l)) _ (term_numbered n left (start_of l)) (λ x. tt)
    term_numbered (suc n) zero (opens l) = is_6
    term_numbered (suc n) (suc left) (opens l) =
        after_numbered (expression_by (λ s. term p d n left s) (λ v j. onward p d n left v j) l) _
        (expression_numbered (λ s. term p d n left s) (λ v j. onward p d n left v j) l (λ s. term_numbered n left s) (λ v j. onward_numbered n left v j))
        (λ x. closed_numbered x.0 x.1)

    onward_numbered : (n left : ℕ) (v : ℤ) (j : Joint) → Numbered (onward p d n left v j)
    onward_numbered zero left v j = is_6
    onward_numbered (suc n) left v (stops l) = tt
    onward_numbered (suc n) left v (joins o l) =
        after_numbered (term p d n left (start_of l)) _ (term_numbered n left (start_of l))
        (λ x. after_numbered (operate o v x.0) _ (operate_numbered o v x.0) (λ y. onward_numbered n left y (joint_of x.1)))

  evaluate_numbered : (l : List ℕ) → Numbered (evaluate p d l)
  unfolding evaluate
  evaluate_numbered l =
      after_numbered (expression_by (term p d (suc (length l)) 8) (onward p d (suc (length l)) 8) l) _
      (expression_numbered (term p d (suc (length l)) 8) (onward p d (suc (length l)) 8) l (term_numbered (suc (length l)) 8) (onward_numbered (suc (length l)) 8))
      (λ x. whole_numbered x.0 x.1)

module _ (p : Pitch) (l : List ℕ) where
  pub cells_numbered : Numbered (cells p l)
  cells_numbered = after_numbered (evaluate p Em l) _ (evaluate_numbered p Em l) (λ z. tt)

  pub rows_numbered : Numbered (rows p l)
  rows_numbered = after_numbered (evaluate p LineSpace l) _ (evaluate_numbered p LineSpace l) (λ z. tt)

  pub units_numbered : Numbered (units p l)
  units_numbered = evaluate_numbered p BasicUnit l
