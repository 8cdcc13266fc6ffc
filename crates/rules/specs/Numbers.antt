-- Numbers (document 01, 'Numbers'): an argument's value. Everything malformed or out of bounds here earns 6. Assumes nothing.
use Rattle.std.specs.Prelude.{Bool, true, false, not, ◌&&◌, ◌||◌, List, [], ◌∷◌, ℕ, zero, suc, ◌+◌, ◌-◌, ◌*◌, leb, eqb, length, ℤ, pos, negsuc, nat_abs, neg_ℤ, ◌+ℤ◌, ◌-ℤ◌, ◌*ℤ◌, Option, None, Some}
use Rattle.std.specs.Int.Signed.{lt_z, le_z, quot_z, rem_z}
use Rattle.measure.specs.declared.Pitch.{Pitch}
use Rattle.measure.specs.declared.Scale.{Scale}
use Rattle.measure.specs.declared.Scale.TheVariants.{Em, LineSpace, Unit as BasicUnit}
use Rattle.measure.specs.Scales.{scale_of, literal_of}
use Rattle.measure.specs.Rounding.{nearest_of}
use Rattle.rules.specs.Bytes.{byte, first_where, in_table, entry}
use Rattle.rules.specs.Refusals.{Judged, value, bad, judge, ◌>>=◌}
use Rattle.rules.specs.declared.Operator.{Operator}
use Rattle.rules.specs.declared.Operator.TheVariants.{Add, Subtract, Multiply, Divide, Remainder, Less, Greater, AtMost, AtLeast, Equal, And, Or}

-- The value of an argument, or its refusal.
abbrev pub Value : Type 0
Value = Judged ℤ

-- A part of an argument that was read: its value and the bytes after it.
abbrev pub Read : Type 0
Read = Judged (ℤ × List ℕ)

-- "6: .. literal, step or result outside ±1,000,000,000"
abbrev pub within : ℤ → Value
within z = judge (leb (nat_abs z) 1000000000) 6 z

-- "Comparisons and logic give 1 or 0; true is above 0"
abbrev pub truth : Bool → Value
truth true = value (pos 1)
truth false = value (pos 0)

-- "true is above 0"
abbrev pub is_true : ℤ → Bool
is_true z = lt_z (pos 0) z

-- = and ==
abbrev pub equal_z : ℤ → ℤ → Bool
equal_z (pos a) (pos b) = eqb a b
equal_z (pos a) (negsuc b) = false
equal_z (negsuc a) (pos b) = false
equal_z (negsuc a) (negsuc b) = eqb a b

-- "6: .. zero divisor"
abbrev pub divisor : ℤ → Value
divisor z = judge (not (eqb (nat_abs z) 0)) 6 z

-- "Division cuts toward zero and % has the dividend's sign"
abbrev pub operate : Operator → ℤ → ℤ → Value
operate Add a b = within (a +ℤ b)
operate Subtract a b = within (a -ℤ b)
operate Multiply a b = within (a *ℤ b)
operate Divide a b = divisor b >>= λ d. within (quot_z a d)
operate Remainder a b = divisor b >>= λ d. within (rem_z a d)
operate Less a b = truth (lt_z a b)
operate Greater a b = truth (lt_z b a)
operate AtMost a b = truth (le_z a b)
operate AtLeast a b = truth (le_z b a)
operate Equal a b = truth (equal_z a b)
operate And a b = truth (is_true a && is_true b)
operate Or a b = truth (is_true a || is_true b)

-- "+ - * / % < > <= >= = == & :"
abbrev pub operators : List (ℕ × Operator)
operators =
    (byte "+", Add) ∷ (byte "-", Subtract) ∷ (byte "*", Multiply) ∷ (byte "/", Divide) ∷ (byte "%", Remainder)
    ∷ (byte "<", Less) ∷ (byte ">", Greater) ∷ (byte "=", Equal) ∷ (byte "&", And) ∷ (byte ":", Or) ∷ []

-- those of two bytes, by the byte before =; they are tried first
abbrev pub operators_before_equal : List (ℕ × Operator)
operators_before_equal = (byte "<", AtMost) ∷ (byte ">", AtLeast) ∷ (byte "=", Equal) ∷ []

-- What follows a term: an operator and the bytes after it, or something else.
pub data Joint : Type 0 where
  joins : Operator → List ℕ → Joint
  stops : List ℕ → Joint

-- an operator, or else what else follows
abbrev pub joins_or : Option Operator → List ℕ → Joint → Joint
joins_or None l j = j
joins_or (Some o) l j = joins o l

-- what follows a term, by its first byte alone
abbrev pub one_byte_joint : ℕ → List ℕ → Joint
one_byte_joint b l = joins_or (in_table operators b) l (stops (b ∷ l))

-- the operator of two bytes whose second is =
abbrev pub operator_before : (equal : Bool) → ℕ → Option Operator
operator_before true b = in_table operators_before_equal b
operator_before false b = None

-- what follows a term; operators of two bytes are tried first
unfoldable pub joint_of : List ℕ → Joint
unfolding first_where
joint_of [] = stops []
joint_of (b ∷ []) = one_byte_joint b []
joint_of (b ∷ c ∷ l) = joins_or (operator_before (eqb c (byte "=")) b) l (one_byte_joint b (c ∷ l))

-- a decimal digit
abbrev pub is_digit : ℕ → Bool
is_digit b = leb (byte "0") b && leb b (byte "9")

-- the number that the digits at the front spell after n, and the bytes after them
unfoldable pub digits : ℕ → List ℕ → ℕ × List ℕ
digits n [] = (n, [])
digits n (b ∷ l) = elim (is_digit b) [ true ↦ digits (n * 10 + (b - byte "0")) l | false ↦ (n, b ∷ l) ]

module _ (p : Pitch) where
  -- "Literals are whole digits with scale .., cut down to whole units"
  abbrev pub scaled : Scale → ℕ → List ℕ → Read
  scaled s n l = within (pos (literal_of p s n)) >>= λ z. value (z, l)

  -- the scale is the letter behind the digits, or else the default one
  abbrev pub scaled_or : Option Scale → (default : Scale) → ℕ → ℕ → List ℕ → Read
  scaled_or (Some s) d n b l = scaled s n l
  scaled_or None d n b l = scaled d n (b ∷ l)

  -- digits with the scale behind them, or the default one
  abbrev pub scaled_by : (default : Scale) → ℕ → List ℕ → Read
  scaled_by d n [] = scaled d n []
  scaled_by d n (b ∷ l) = scaled_or (scale_of b) d n b l

  -- "Literals are whole digits with scale"
  abbrev pub literal_at : (default : Scale) → List ℕ → Read
  unfolding digits
  literal_at m l = let d = digits 0 l in scaled_by m d.0 d.1

-- How a term starts: with a digit, a parenthesis or a sign (and the bytes after that one), or not at all.
pub data Start : Type 0 where
  literal opens plus minus : List ℕ → Start
  no_term : Start

-- how a term starts, by its first byte
abbrev pub start_by : (digit : Bool) → ℕ → List ℕ → Start
unfolding first_where
start_by true b l = literal (b ∷ l)
start_by false b l = entry ((byte "(", opens l) ∷ (byte "+", plus l) ∷ (byte "-", minus l) ∷ []) no_term b

-- how a term starts
unfoldable pub start_of : List ℕ → Start
unfolding first_where
start_of [] = no_term
start_of (b ∷ l) = start_by (is_digit b) b l

-- a closing parenthesis after a value
abbrev pub parenthesized : ℤ → List ℕ → Read
parenthesized v [] = bad 6
parenthesized v (b ∷ l) = judge (eqb b (byte ")")) 6 (v, l)

-- "An expression is terms joined by operators": the two readers, of a term and of what follows one
abbrev pub expression_by : (Start → Read) → (ℤ → Joint → Read) → List ℕ → Read
expression_by term onward l = do
  (v, r) ← term (start_of l)
  onward v (joint_of r)

-- nothing follows a value
abbrev pub whole : ℤ → List ℕ → Value
whole v [] = value v
whole v (b ∷ l) = bad 6

module _ (p : Pitch) (default : Scale) where
  -- n is above the number of unread bytes, so its case 0 is never met (Laws.Numbers, `evaluate_any`); `left` parentheses may still be opened
  unfoldable mutual
    unfolding digits first_where scale_of

    -- "a term is a literal, a parenthesised expression, or one sign and a term"; "6: .. parentheses past 8 deep"
    pub term : (n left : ℕ) → Start → Read
    term zero left s = bad 6
    term (suc n) left no_term = bad 6
    term (suc n) left (literal l) = literal_at p default l
    term (suc n) left (plus l) = term n left (start_of l)
    term (suc n) left (minus l) = term n left (start_of l) >>= λ x. value (neg_ℤ x.0, x.1)
    term (suc n) zero (opens l) = bad 6
    term (suc n) (suc left) (opens l) = expression_by (λ s. term n left s) (λ v j. onward n left v j) l >>= λ x. parenthesized x.0 x.1

    -- "Expressions run left to right with no precedence"
    pub onward : (n left : ℕ) → ℤ → Joint → Read
    onward zero left v j = bad 6
    onward (suc n) left v (stops l) = value (v, l)
    onward (suc n) left v (joins o l) = do
      (x, r) ← term n left (start_of l)
      y ← operate o v x
      onward n left y (joint_of r)

  -- the whole argument is one expression
  unfoldable pub evaluate : List ℕ → Value
  unfolding term joint_of start_of
  evaluate l = expression_by (term (suc (length l)) 8) (onward (suc (length l)) 8) l >>= λ x. whole x.0 x.1

-- "Default scale: m for ll in ti po; v for sp pl wh; u for nr, ce and if"; "Results of the first two groups round to the nearest cell or row"
module _ (p : Pitch) where
  -- "m for ll in ti po", rounded to cells
  abbrev pub cells : List ℕ → Value
  cells l = evaluate p Em l >>= λ z. value (nearest_of p.cell z)

  -- "v for sp pl wh", rounded to rows
  abbrev pub rows : List ℕ → Value
  rows l = evaluate p LineSpace l >>= λ z. value (nearest_of p.row z)

  -- "u for nr, ce and if"
  abbrev pub units : List ℕ → Value
  units l = evaluate p BasicUnit l

-- "a leading sign marks a change to the old value by the whole expression"
abbrev pub signed : List ℕ → Bool
signed [] = false
signed (b ∷ l) = eqb b (byte "+") || eqb b (byte "-")
