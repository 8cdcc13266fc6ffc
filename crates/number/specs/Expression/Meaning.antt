-- What the readers of terms and expressions promise: the rules' value at every count of steps that suffices. Records, so that a proof has their arguments from a
-- hypothesis. Assumes nothing.
use Rattle.std.specs.Prelude.{◌≡◌, List, ℕ, suc, ◌+◌, ◌<◌, length, drop}
use Rattle.measure.specs.declared.Pitch.{Pitch}
use Rattle.measure.specs.declared.Scale.{Scale}
use Rattle.rules.specs.Numbers.{term, onward, start_of, expression_by}
use Rattle.rules.specs.Numbers as rules
use Rattle.number.specs.Expression.Reading.{Read, read_of, Forward}

-- an expression from a place on, of which `left` parentheses may still be opened
abbrev pub expression_from : Pitch → Scale → (n left : ℕ) → List ℕ → rules.Read
expression_from p d n left l = expression_by (term p d n left) (onward p d n left) l

pub record TermIs (p : Pitch) (d : Scale) (s : List ℕ) (at left : ℕ) (r : Read) : Type 0 where
  pub good : Forward (length s) at r
  pub is : (n : ℕ) → length s < n + at → read_of s r ≡ term p d n left (start_of (drop at s))

pub record ExpressionIs (p : Pitch) (d : Scale) (s : List ℕ) (at left : ℕ) (r : Read) : Type 0 where
  pub outright : read_of s r ≡ expression_from p d (suc (length s)) left (drop at s)
  pub good : Forward (length s) at r
  pub is : (n : ℕ) → length s < n + at → read_of s r ≡ expression_from p d n left (drop at s)
