-- What holds of a scale's ratio at any pitch. Assumes nothing.
use Rattle.std.specs.Prelude.{ℕ, ◌≤◌, ◌<◌}
use Rattle.std.proofs.Common.{mul-le-mul_left, le-div_iff_mul-le, arith}
use Rattle.measure.specs.Scales.{ratio_of, literal_of}
use Rattle.measure.specs.declared.Pitch.{Pitch}
use Rattle.measure.specs.declared.Scale.{Scale}
use Rattle.measure.specs.declared.Scale.TheVariants.{Inch, Centimetre, Pica, Em, En, Point, Unit, LineSpace}

pub per_some : (p : Pitch) (s : Scale) → 0 < (ratio_of p s).per
per_some p Inch = omega arith
per_some p Centimetre = omega arith
per_some p Pica = omega arith
per_some p Em = omega arith
per_some p En = omega arith
per_some p Point = omega arith
per_some p Unit = omega arith
per_some p LineSpace = omega arith

module _ (p : Pitch) (c : 0 < p.cell) (r : 0 < p.row) where
  per_least : (s : Scale) → (ratio_of p s).per ≤ (ratio_of p s).units
  per_least Inch = omega arith
  per_least Centimetre = omega arith
  per_least Pica = omega arith
  per_least Em = omega arith
  per_least En = omega arith
  per_least Point = omega arith
  per_least Unit = omega arith
  per_least LineSpace = omega arith

  -- a literal is at least its digits, so digits past a bound are past it at any scale
  pub at_least : (s : Scale) (n : ℕ) → n ≤ literal_of p s n
  at_least s n = (le-div_iff_mul-le (per_some p s)).1 (mul-le-mul_left n (per_least s))
