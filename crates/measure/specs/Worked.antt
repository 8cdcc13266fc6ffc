-- The worked facts of document 01 on units and cells, at ten to the inch.
use Rattle.std.specs.Prelude.{◌≡◌, refl, List, [], ◌∷◌, map, ℕ, ℤ, pos, negsuc, Option, Some, None}
use Rattle.measure.specs.declared.Scale.{Scale}
use Rattle.measure.specs.Pitches.{ten_pitch}
use Rattle.measure.specs.Scales.{scale_of, literal_of}
use Rattle.measure.specs.Rounding.{half_up, cells_of}

-- a literal by its count and what its scale's byte names; -1, which no literal is, stands for no scale
literal : ℕ → Option Scale → ℤ
literal n (Some s) = pos (literal_of ten_pitch s n)
literal n None = negsuc 0

across : ℤ → ℤ
across z = (cells_of ten_pitch z).0

-- what the definitions give, and what document 01 says
pub conversions : List (ℤ × ℤ)
conversions =
    -- 1c is 94
    (literal 1 (scale_of 99), pos 94)
    -- 3p is 10
    ∷ (literal 3 (scale_of 112), pos 10)
    -- 36u across is 2 cells
    ∷ (across (pos 36), pos 2)
    -- -36u is -2
    ∷ (across (negsuc 35), negsuc 1)
    ∷ []

pub conversions_worked : map (λ r. r.0) conversions ≡ map (λ r. r.1) conversions
unfolding conversions literal across scale_of half_up
conversions_worked = refl
