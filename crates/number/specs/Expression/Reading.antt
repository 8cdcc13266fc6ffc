-- What the readers' answers say, over the text s that is read from a place on. Assumes nothing.
use Rattle.std.specs.Prelude.{cond, List, ℕ, ◌+◌, ◌-◌, ◌≤◌, ◌<◌, leb, length, drop, ℤ, Option, Some, None, Result, Ok, Err}
use Rattle.measure.specs.declared.Pitch.{Pitch}
use Rattle.measure.specs.declared.Scale.{Scale}
use Rattle.rules.specs.Refusals.{bad}
use Rattle.rules.specs.Results.{judged_by}
use Rattle.rules.specs.Numbers.{digits, joins, stops, Start, literal, opens, plus, minus, no_term, literal_at}
use Rattle.rules.specs.Numbers as rules
use Rattle.rules.specs.declared.Operator.{Operator}
use Rattle.rules.specs.declared.Refusal.{Refusal}
use Rattle.rules.specs.declared.Refusal.TheVariants.{BadNumber}

-- an operator and its width in bytes, or none
abbrev pub Joint : Type 0
Joint = Option (Operator × ℕ)

-- what follows a term: an operator and the bytes after it, or the bytes that are no operator
abbrev pub joint_in : List ℕ → ℕ → Joint → rules.Joint
joint_in s at (Some o) = joins o.0 (drop (at + o.1) s)
joint_in s at None = stops (drop at s)

-- an operator stands within the text
abbrev pub GoodJoint : ℕ → ℕ → Joint → Type 0
GoodJoint len at (Some o) = (0 < o.1) × (at + o.1 ≤ len)
GoodJoint len at None = Unit {0}

-- the number of the digits at a place and the place after them; past 1,000,000,000 its exact size does not matter, as every scale is at least one unit
abbrev pub digits_of : List ℕ → ℕ → Result (ℕ × ℕ) Refusal
digits_of s at = let d = digits 0 (drop at s) in cond (leb d.0 1000000000) (Ok (d.0, length s - length d.1)) (Err BadNumber)

-- a value with the place after it, or a refusal
abbrev pub Read : Type 0
Read = Result (ℤ × ℕ) Refusal

-- a value and the bytes after it, or its refusal
abbrev pub read_of : List ℕ → Read → rules.Read
read_of s r = judged_by (λ x. (x.0, drop x.1 s)) r

-- reading goes forward, and stays within the text
abbrev pub Forward : ℕ → ℕ → Read → Type 0
Forward len at (Ok x) = (at < x.1) × (x.1 ≤ len)
Forward len at (Err r) = Unit {0}

-- a term that is a literal; any other start is none
abbrev pub literal_term : Pitch → Scale → Start → rules.Read
literal_term p d (literal l) = literal_at p d l
literal_term p d (opens l) = bad 6
literal_term p d (plus l) = bad 6
literal_term p d (minus l) = bad 6
literal_term p d no_term = bad 6
