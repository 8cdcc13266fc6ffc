-- Laws of numbers: every value is within ±1,000,000,000, and the readers' count of steps does not matter. Assumes nothing.
use Rattle.std.specs.Prelude.{◌≡◌, Bool, true, false, List, [], ◌∷◌, eqb, length, drop, get_or, ℤ, pos, neg_ℤ, Option, None, Some}
use Rattle.std.proofs.Math.Path.{refl, ap}
use Rattle.std.proofs.Common.{sym, ◌∙◌, arith, ne_eqb}
use Prim.Native.Nat.{ℕ, zero, suc, ◌+◌, ◌-◌, ◌*◌, ◌≤◌, ◌<◌}
use Rattle.measure.specs.declared.Pitch.{Pitch}
use Rattle.measure.specs.declared.Scale.{Scale}
use Rattle.measure.specs.declared.Scale.TheVariants.{LineSpace, Unit as BasicUnit}
use Rattle.measure.specs.Scales.{scale_of, literal_of}
use Rattle.measure.specs.RoundingLaws.{abs_neg, no_larger}
use Rattle.rules.specs.Bytes.{byte, first_where, in_table}
use Rattle.rules.specs.Laws.Tables.{entry_each}
use Rattle.rules.specs.Refusals.{value, bad, ◌>>=◌}
use Rattle.rules.specs.Laws.Refusals.{Every, every_value, every_refused, every, every_of, judge_every, every_map, same_after}
use Rattle.rules.specs.Numbers.{Read, within, truth, divisor, operate, operators, operators_before_equal, Joint, joins, stops, joins_or, one_byte_joint, operator_before, joint_of, is_digit, digits, scaled, scaled_or, scaled_by, literal_at, Start, literal, opens, plus, minus, no_term, start_by, start_of, parenthesized, expression_by, whole, term, onward, evaluate, rows, units}
use Rattle.rules.specs.Laws.Numbers.{Bounded, within_bounded}
use Rattle.rules.specs.declared.Operator.{Operator}
use Rattle.rules.specs.declared.Operator.TheVariants.{Add, Subtract, Multiply, Divide, Remainder, Less, Greater, AtMost, AtLeast, Equal, And, Or}

-- the value of a part that was read is bounded
abbrev pub BoundedRead : ℤ × List ℕ → Type 0
BoundedRead x = Bounded x.0

truth_bounded : (t : Bool) → Every Bounded (truth t)
truth_bounded true = every_value {a = pos 1} (omega arith)
truth_bounded false = every_value {a = pos 0} (omega arith)

-- every operator's result is bounded (`search` finds the result: what an operator gives is said only in Numbers)
pub operate_bounded : (o : Operator) (a b : ℤ) → Every Bounded (operate o a b)
operate_bounded Add a b = search within_bounded
operate_bounded Subtract a b = search within_bounded
operate_bounded Multiply a b = search within_bounded
operate_bounded Divide a b = every (divisor b) _ (λ d. search within_bounded)
operate_bounded Remainder a b = every (divisor b) _ (λ d. search within_bounded)
operate_bounded Less a b = search truth_bounded
operate_bounded Greater a b = search truth_bounded
operate_bounded AtMost a b = search truth_bounded
operate_bounded AtLeast a b = search truth_bounded
operate_bounded Equal a b = search truth_bounded
operate_bounded And a b = search truth_bounded
operate_bounded Or a b = search truth_bounded

closed_bounded : (v : ℤ) (l : List ℕ) → Bounded v → Every BoundedRead (parenthesized v l)
closed_bounded v [] h = every_refused
closed_bounded v (b ∷ l) h = judge_every (eqb b (byte ")")) 6 (v, l) h

whole_bounded : (v : ℤ) (l : List ℕ) → Bounded v → Every Bounded (whole v l)
whole_bounded v [] h = every_value h
whole_bounded v (b ∷ l) h = every_refused

expression_bounded : (t : Start → Read) (o : ℤ → Joint → Read) (l : List ℕ) → ((s : Start) → Every BoundedRead (t s))
    → ((v : ℤ) (j : Joint) → Bounded v → Every BoundedRead (o v j)) → Every BoundedRead (expression_by t o l)
expression_bounded t o l f g = every_of _ (f (start_of l)) (λ x h. g x.0 (joint_of x.1) h)

module _ (p : Pitch) where
  scaled_bounded : (s : Scale) (n : ℕ) (l : List ℕ) → Every BoundedRead (scaled p s n l)
  scaled_bounded s n l = every_of _ (within_bounded (pos (literal_of p s n))) (λ z h. every_value h)

  scaled_or_bounded : (m : Option Scale) (d : Scale) (n b : ℕ) (l : List ℕ) → Every BoundedRead (scaled_or p m d n b l)
  scaled_or_bounded (Some s) d n b l = scaled_bounded s n l
  scaled_or_bounded None d n b l = scaled_bounded d n (b ∷ l)

  scaled_by_bounded : (d : Scale) (n : ℕ) (l : List ℕ) → Every BoundedRead (scaled_by p d n l)
  scaled_by_bounded d n [] = scaled_bounded d n []
  scaled_by_bounded d n (b ∷ l) = scaled_or_bounded (scale_of b) d n b l

  -- every literal's value is bounded
  pub literal_bounded : (d : Scale) (l : List ℕ) → Every BoundedRead (literal_at p d l)
  unfolding digits
  literal_bounded d l = scaled_by_bounded d (digits 0 l).0 (digits 0 l).1

module _ (p : Pitch) (d : Scale) where
  mutual
    unfolding term

    -- every term's value is bounded
    pub term_bounded : (n left : ℕ) (x : Start) → Every BoundedRead (term p d n left x)
    term_bounded zero left x = every_refused
    term_bounded (suc n) left no_term = every_refused
    term_bounded (suc n) left (literal l) = literal_bounded p d l
    term_bounded (suc n) left (plus l) = term_bounded n left (start_of l)
    term_bounded (suc n) left (minus l) = every_of _ (term_bounded n left (start_of l)) (λ x h. every_value (rw abs_neg h))
    term_bounded (suc n) zero (opens l) = every_refused
    term_bounded (suc n) (suc left) (opens l) =
        every_of _ (expression_bounded (λ s. term p d n left s) (λ v j. onward p d n left v j) l (λ s. term_bounded n left s) (λ v j h. onward_bounded n left v j h))
        (λ x h. closed_bounded x.0 x.1 h)

    -- the value of terms joined by operators is bounded, if that of the first is
    pub onward_bounded : (n left : ℕ) (v : ℤ) (j : Joint) → Bounded v → Every BoundedRead (onward p d n left v j)
    onward_bounded zero left v j h = every_refused
    onward_bounded (suc n) left v (stops l) h = every_value h
    onward_bounded (suc n) left v (joins o l) h =
        every (term p d n left (start_of l)) _ (λ x. every_of _ (operate_bounded o v x.0) (λ y i. onward_bounded n left y (joint_of x.1) i))

  -- every argument's value is bounded
  pub evaluate_bounded : (l : List ℕ) → Every Bounded (evaluate p d l)
  unfolding evaluate
  evaluate_bounded l =
      every_of _ (expression_bounded (term p d (suc (length l)) 8) (onward p d (suc (length l)) 8) l (term_bounded (suc (length l)) 8) (onward_bounded (suc (length l)) 8))
      (λ x h. whole_bounded x.0 x.1 h)

module _ (p : Pitch) where
  -- every count of rows is bounded
  pub rows_bounded : (l : List ℕ) → Every Bounded (rows p l)
  rows_bounded l = every_of _ (evaluate_bounded p LineSpace l) (λ z h. every_value (omega (arith, no_larger p.row z)))

  -- every number of units is bounded
  pub units_bounded : (l : List ℕ) → Every Bounded (units p l)
  units_bounded l = evaluate_bounded p BasicUnit l

abbrev digits_by : Bool → ℕ → ℕ → List ℕ → ℕ × List ℕ
digits_by t n b l = elim t [ true ↦ digits (n * 10 + (b - byte "0")) l | false ↦ (n, b ∷ l) ]

-- what is left behind the digits at the front is no longer
pub digits_short : (n : ℕ) (l : List ℕ) → length (digits n l).1 ≤ length l
unfolding digits
digits_short n [] = omega arith
digits_short n (b ∷ l) = go (is_digit b) (digits_short (n * 10 + (b - byte "0")) l)
  where
    go : (t : Bool) → length (digits (n * 10 + (b - byte "0")) l).1 ≤ length l
        → length (digits_by t n b l).1 ≤ suc (length l)
    go true h = omega arith
    go false h = omega arith

-- what is left behind a digit is shorter
pub digits_shorter : (n b : ℕ) (l : List ℕ) → is_digit b ≡ true → length (digits n (b ∷ l)).1 ≤ length l
unfolding digits
digits_shorter n b l e = rw (digits, e) (digits_short (n * 10 + (b - byte "0")) l)

-- what is left behind the digits is the end of what was there
pub digits_rest : (n : ℕ) (l : List ℕ) → (digits n l).1 ≡ drop (length l - length (digits n l).1) l
unfolding digits
digits_rest n [] = refl
digits_rest n (b ∷ l) = go (is_digit b) (digits_short (n * 10 + (b - byte "0")) l) (digits_rest (n * 10 + (b - byte "0")) l)
  where
    more : (a c : ℕ) → a ≤ c → suc c - a ≡ suc (c - a)
    more a c h = omega arith

    none_left : (a : ℕ) → a - a ≡ 0
    none_left a = omega arith

    go : (t : Bool) → length (digits (n * 10 + (b - byte "0")) l).1 ≤ length l
        → (digits (n * 10 + (b - byte "0")) l).1 ≡ drop (length l - length (digits (n * 10 + (b - byte "0")) l).1) l
        → (digits_by t n b l).1 ≡ drop (suc (length l) - length (digits_by t n b l).1) (b ∷ l)
    go true h e = rw (more (length (digits (n * 10 + (b - byte "0")) l).1) (length l) h) e
    go false h e = rw (none_left (suc (length l)))

-- the unread bytes of a term, with the one that starts it
abbrev pub start_size : Start → ℕ
start_size (literal l) = length l
start_size (opens l) = suc (length l)
start_size (plus l) = suc (length l)
start_size (minus l) = suc (length l)
start_size no_term = zero

-- the unread bytes at a joint, with one of its operator
abbrev pub joint_size : Joint → ℕ
joint_size (joins o l) = suc (length l)
joint_size (stops l) = length l

start_by_size : (t : Bool) (b : ℕ) (l : List ℕ) → start_size (start_by t b l) ≤ suc (length l)
unfolding first_where
start_by_size true b l = omega arith
start_by_size false b l =
    entry_each (λ x. start_size x ≤ suc (length l)) ((byte "(", opens l) ∷ (byte "+", plus l) ∷ (byte "-", minus l) ∷ []) no_term b (omega arith) (omega arith)

-- a term starts within the unread bytes
pub start_size_lem : (l : List ℕ) → start_size (start_of l) ≤ length l
unfolding start_of
start_size_lem [] = omega arith
start_size_lem (b ∷ l) = start_by_size (is_digit b) b l

joins_or_size : (o : Option Operator) (l : List ℕ) (j : Joint) (n : ℕ) → length l < n → joint_size j ≤ n → joint_size (joins_or o l j) ≤ n
joins_or_size None l j n h i = i
joins_or_size (Some o) l j n h i = h

-- an operator stands within the unread bytes
pub joint_size_lem : (l : List ℕ) → joint_size (joint_of l) ≤ length l
unfolding joint_of
joint_size_lem [] = omega arith
joint_size_lem (b ∷ []) = joins_or_size (in_table operators b) [] (stops (b ∷ [])) 1 (omega arith) (omega arith)
joint_size_lem (b ∷ c ∷ l) =
    joins_or_size (operator_before (eqb c (byte "=")) b) l (one_byte_joint b (c ∷ l)) (suc (suc (length l))) (omega arith) (joins_or_size (in_table operators b) (c ∷ l) (stops (b ∷ c ∷ l)) (suc (suc (length l))) (omega arith) (omega arith))

-- at most n bytes are unread behind a part
abbrev pub Rest : ℕ → ℤ × List ℕ → Type 0
Rest n x = length x.1 ≤ n

closed_rest : (v : ℤ) (l : List ℕ) (n : ℕ) → length l ≤ n → Every (Rest n) (parenthesized v l)
closed_rest v [] n h = every_refused
closed_rest v (b ∷ l) n h = judge_every (eqb b (byte ")")) 6 (v, l) (omega arith)

expression_rest : (t : Start → Read) (o : ℤ → Joint → Read) (l : List ℕ) → ((s : Start) → Every (Rest (start_size s)) (t s))
    → ((v : ℤ) (j : Joint) → Every (Rest (joint_size j)) (o v j)) → Every (Rest (length l)) (expression_by t o l)
expression_rest t o l f g =
    every_of _ (f (start_of l)) (λ x h. every_map (g x.0 (joint_of x.1)) (λ y i. omega (arith, start_size_lem l, joint_size_lem x.1)))

module _ (p : Pitch) where
  scaled_rest : (s : Scale) (n : ℕ) (l : List ℕ) (k : ℕ) → length l ≤ k → Every (Rest k) (scaled p s n l)
  scaled_rest s n l k h = every (within (pos (literal_of p s n))) _ (λ z. every_value h)

  scaled_or_rest : (m : Option Scale) (d : Scale) (n b : ℕ) (l : List ℕ) (k : ℕ) → length l < k → Every (Rest k) (scaled_or p m d n b l)
  scaled_or_rest (Some s) d n b l k h = scaled_rest s n l k (omega arith)
  scaled_or_rest None d n b l k h = scaled_rest d n (b ∷ l) k h

  scaled_by_rest : (d : Scale) (n : ℕ) (l : List ℕ) (k : ℕ) → length l ≤ k → Every (Rest k) (scaled_by p d n l)
  scaled_by_rest d n [] k h = scaled_rest d n [] k h
  scaled_by_rest d n (b ∷ l) k h = scaled_or_rest (scale_of b) d n b l k h

  -- what is unread behind a literal is no longer than what was before it
  pub literal_rest : (d : Scale) (l : List ℕ) → Every (Rest (length l)) (literal_at p d l)
  unfolding digits
  literal_rest d l = scaled_by_rest d (digits 0 l).0 (digits 0 l).1 (length l) (digits_short 0 l)

module _ (p : Pitch) (d : Scale) where
  mutual
    unfolding term

    -- what is unread behind a term is no longer than what was before it
    pub term_rest : (n left : ℕ) (x : Start) → Every (Rest (start_size x)) (term p d n left x)
    term_rest zero left x = every_refused
    term_rest (suc n) left no_term = every_refused
    term_rest (suc n) left (literal l) = literal_rest p d l
    term_rest (suc n) left (plus l) = every_map (term_rest n left (start_of l)) (λ x h. omega (arith, start_size_lem l))
    term_rest (suc n) left (minus l) = every_of _ (term_rest n left (start_of l)) (λ x h. every_value (omega (arith, start_size_lem l)))
    term_rest (suc n) zero (opens l) = every_refused
    term_rest (suc n) (suc left) (opens l) =
        every_of _ (expression_rest (λ s. term p d n left s) (λ v j. onward p d n left v j) l (λ s. term_rest n left s) (λ v j. onward_rest n left v j))
        (λ x h. closed_rest x.0 x.1 (suc (length l)) (omega arith))

    -- what is unread behind joined terms is no longer than what was before them
    pub onward_rest : (n left : ℕ) (v : ℤ) (j : Joint) → Every (Rest (joint_size j)) (onward p d n left v j)
    onward_rest zero left v j = every_refused
    onward_rest (suc n) left v (stops l) = every_value {a = (v, l)} (omega arith)
    onward_rest (suc n) left v (joins o l) =
        every_of _ (term_rest n left (start_of l)) (λ x h. every (operate o v x.0) _
        (λ y. every_map (onward_rest n left y (joint_of x.1)) (λ z i. omega (arith, start_size_lem l, joint_size_lem x.1))))

expression_same : (t u : Start → Read) (o q : ℤ → Joint → Read) (l : List ℕ) → t (start_of l) ≡ u (start_of l) → Every (Rest (length l)) (u (start_of l))
    → ((v : ℤ) (r : List ℕ) → length r ≤ length l → o v (joint_of r) ≡ q v (joint_of r)) → expression_by t o l ≡ expression_by u q l
expression_same t u o q l e h f = ap (λ z. z >>= λ x. o x.0 (joint_of x.1)) e ∙ same_after _ _ h (λ x i. f x.0 x.1 i)

module _ (p : Pitch) (d : Scale) where
  -- one step of `term`, by readers for all that comes after it
  abbrev pub term_by : (ℕ → Start → Read) → (ℕ → ℤ → Joint → Read) → (left : ℕ) → Start → Read
  term_by t o left no_term = bad 6
  term_by t o left (literal l) = literal_at p d l
  term_by t o left (plus l) = t left (start_of l)
  term_by t o left (minus l) = t left (start_of l) >>= λ x. value (neg_ℤ x.0, x.1)
  term_by t o zero (opens l) = bad 6
  term_by t o (suc left) (opens l) = expression_by (t left) (o left) l >>= λ x. parenthesized x.0 x.1

  -- one step of `onward`
  abbrev pub onward_by : (ℕ → Start → Read) → (ℕ → ℤ → Joint → Read) → (left : ℕ) → ℤ → Joint → Read
  onward_by t o left v (stops l) = value (v, l)
  onward_by t o left v (joins q l) = do
    (x, r) ← t left (start_of l)
    y ← operate q v x
    o left y (joint_of r)

  -- Readers that take such steps, and give anything at all when their steps are used up.
  pub record Readers (t : (n left : ℕ) → Start → Read) (o : (n left : ℕ) → ℤ → Joint → Read) : Type 0 where
    pub terms : (n left : ℕ) (x : Start) → t (suc n) left x ≡ term_by (t n) (o n) left x
    pub onwards : (n left : ℕ) (v : ℤ) (j : Joint) → o (suc n) left v j ≡ onward_by (t n) (o n) left v j

  -- `term` takes such steps
  pub term_step : (n left : ℕ) (x : Start) → term p d (suc n) left x ≡ term_by (term p d n) (onward p d n) left x
  unfolding term
  term_step n left no_term = refl
  term_step n left (literal l) = refl
  term_step n left (plus l) = refl
  term_step n left (minus l) = refl
  term_step n zero (opens l) = refl
  term_step n (suc left) (opens l) = refl

  -- `onward` takes such steps
  pub onward_step : (n left : ℕ) (v : ℤ) (j : Joint) → onward p d (suc n) left v j ≡ onward_by (term p d n) (onward p d n) left v j
  unfolding term
  onward_step n left v (stops l) = refl
  onward_step n left v (joins o l) = refl

  -- the two with k steps more are such readers too
  pub readers : (k : ℕ) → Readers (λ n. term p d (k + n)) (λ n. onward p d (k + n))
  readers k = record {
    terms = λ n left x. ap (λ m. term p d m left x) (later k n) ∙ term_step (k + n) left x;
    onwards = λ n left v j. ap (λ m. onward p d m left v j) (later k n) ∙ onward_step (k + n) left v j;
  }
    where
      later : (a b : ℕ) → a + suc b ≡ suc (a + b)
      later a b = omega arith

  module _ (t : (n left : ℕ) → Start → Read) (o : (n left : ℕ) → ℤ → Joint → Read) (r : Readers t o) where
    expression_of : (n left : ℕ) (l : List ℕ) → length l < n → ((x : Start) → start_size x < n → t n left x ≡ term p d n left x)
        → ((v : ℤ) (j : Joint) → joint_size j < n → o n left v j ≡ onward p d n left v j)
        → expression_by (t n left) (o n left) l ≡ expression_by (term p d n left) (onward p d n left) l
    expression_of n left l h f g =
        expression_same (t n left) (term p d n left) (o n left) (onward p d n left) l (f (start_of l) (omega (arith, start_size_lem l)))
        (every_map (term_rest p d n left (start_of l)) (λ x i. omega (arith, start_size_lem l))) (λ v u i. g v (joint_of u) (omega (arith, joint_size_lem u)))

    mutual
      unfolding term

      -- with more steps than unread bytes the steps are never used up: whatever readers give at 0 steps, they give what `term` gives
      pub term_any : (n left : ℕ) (x : Start) → start_size x < n → t n left x ≡ term p d n left x
      term_any zero left x h = absurd (omega arith)
      term_any (suc n) left no_term h = r.terms n left no_term
      term_any (suc n) left (literal l) h = r.terms n left (literal l)
      term_any (suc n) left (plus l) h = r.terms n left (plus l) ∙ term_any n left (start_of l) (omega (arith, start_size_lem l))
      term_any (suc n) left (minus l) h =
          r.terms n left (minus l) ∙ ap (λ z. z >>= λ x. value (neg_ℤ x.0, x.1)) (term_any n left (start_of l) (omega (arith, start_size_lem l)))
      term_any (suc n) zero (opens l) h = r.terms n zero (opens l)
      term_any (suc n) (suc left) (opens l) h =
          r.terms n (suc left) (opens l) ∙ ap (λ z. z >>= λ x. parenthesized x.0 x.1)
          (expression_of n left l (omega arith) (λ x i. term_any n left x i) (λ v j i. onward_any n left v j i))

      -- and what `onward` gives
      pub onward_any : (n left : ℕ) (v : ℤ) (j : Joint) → joint_size j < n → o n left v j ≡ onward p d n left v j
      onward_any zero left v j h = absurd (omega arith)
      onward_any (suc n) left v (stops l) h = r.onwards n left v (stops l)
      onward_any (suc n) left v (joins q l) h =
          r.onwards n left v (joins q l)
          ∙ ap (λ z. z >>= λ x. operate q v x.0 >>= λ y. o n left y (joint_of x.1)) (term_any n left (start_of l) (omega (arith, start_size_lem l)))
          ∙ same_after _ _ (term_rest p d n left (start_of l))
          (λ x i. same_after _ _ (operate_bounded q v x.0) (λ y k. onward_any n left y (joint_of x.1) (omega (arith, start_size_lem l, joint_size_lem x.1))))

    -- and so the same expressions
    pub expression_any : (n left : ℕ) (l : List ℕ) → length l < n → expression_by (t n left) (o n left) l ≡ expression_by (term p d n left) (onward p d n left) l
    expression_any n left l h = expression_of n left l h (term_any n left) (onward_any n left)

  -- and the same expression
  pub expression_fuel : (n k left : ℕ) (l : List ℕ) → length l < k → k ≤ n
      → expression_by (term p d n left) (onward p d n left) l ≡ expression_by (term p d k left) (onward p d k left) l
  expression_fuel n k left l h i =
      let e : n ≡ (n - k) + k = omega arith in
      ap (λ m. expression_by (term p d m left) (onward p d m left) l) e ∙ expression_any _ _ (readers (n - k)) k left l h

  -- the value of an argument is what any such readers give with more steps than bytes
  pub evaluate_any : (t : (n left : ℕ) → Start → Read) (o : (n left : ℕ) → ℤ → Joint → Read) → Readers t o → (n : ℕ) (l : List ℕ) → length l < n
      → evaluate p d l ≡ (expression_by (t n 8) (o n 8) l >>= λ x. whole x.0 x.1)
  unfolding evaluate
  evaluate_any t o r n l h = ap (λ z. z >>= λ x. whole x.0 x.1) (sym (expression_any t o r n 8 l h ∙ expression_fuel n (suc (length l)) 8 l (omega arith) h))

  -- Sanity: and so does not depend on the number of steps
  pub evaluate_fuel : (n : ℕ) (l : List ℕ) → length l < n → evaluate p d l ≡ (expression_by (term p d n 8) (onward p d n 8) l >>= λ x. whole x.0 x.1)
  evaluate_fuel n l h = evaluate_any (term p d) (onward p d) (record { terms = term_step; onwards = onward_step }) n l h

-- An operator in a line. One byte, where no operator of two begins with it.
one_by : (t : Bool) (b : ℕ) (l : List ℕ) (j : Joint) → in_table operators_before_equal b ≡ None → joins_or (operator_before t b) l j ≡ j
one_by true b l j h = rw h
one_by false b l j h = refl

pub joint_one : (b : ℕ) (l : List ℕ) → in_table operators_before_equal b ≡ None → joint_of (b ∷ l) ≡ one_byte_joint b l
unfolding joint_of
joint_one b [] h = refl
joint_one b (c ∷ l) h = one_by (eqb c (byte "=")) b l (one_byte_joint b (c ∷ l)) h

-- One byte, where no = follows.
pub joint_alone : (b : ℕ) (l : List ℕ) → (get_or l 0 0 ≡ byte "=" → ⊥) → joint_of (b ∷ l) ≡ one_byte_joint b l
unfolding joint_of
joint_alone b [] h = refl
joint_alone b (c ∷ l) h = rw (ne_eqb c (byte "=") h)

-- Two bytes.
pub joint_two : (b : ℕ) (o : Operator) (l : List ℕ) → in_table operators_before_equal b ≡ Some o → joint_of (b ∷ byte "=" ∷ l) ≡ joins o l
unfolding joint_of
joint_two b o l h = rw h

-- A digit more, no digit, and that more digits make no smaller number.
pub digits_more : (n b : ℕ) (l : List ℕ) → is_digit b ≡ true → digits n (b ∷ l) ≡ digits (n * 10 + (b - byte "0")) l
unfolding digits
digits_more n b l e = rw (digits, e)

pub digits_stop : (n b : ℕ) (l : List ℕ) → is_digit b ≡ false → digits n (b ∷ l) ≡ (n, b ∷ l)
unfolding digits
digits_stop n b l e = rw (digits, e)

pub digits_grow : (n : ℕ) (l : List ℕ) → n ≤ (digits n l).0
unfolding digits
digits_grow n [] = omega arith
digits_grow n (b ∷ l) = go (is_digit b) refl (digits_grow (n * 10 + (b - byte "0")) l)
  where
    go : (t : Bool) → is_digit b ≡ t → n * 10 + (b - byte "0") ≤ (digits (n * 10 + (b - byte "0")) l).0 → n ≤ (digits n (b ∷ l)).0
    go true e h = rw (digits_more n b l e) (omega arith)
    go false e h = rw (digits_stop n b l e) (omega arith)

-- How a term starts, by its first byte.
pub start_digit : (b : ℕ) (l : List ℕ) → is_digit b ≡ true → start_of (b ∷ l) ≡ literal (b ∷ l)
unfolding start_of
start_digit b l e = rw e

pub start_other : (b : ℕ) (l : List ℕ) → is_digit b ≡ false → start_of (b ∷ l) ≡ start_by false b l
unfolding start_of
start_other b l e = rw e

pub start_none : start_of [] ≡ no_term
unfolding start_of
start_none = refl
