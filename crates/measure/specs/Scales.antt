-- The scales of literals, for any pitch.
use Rattle.std.specs.Prelude.{ℕ, ◌*◌, ◌/◌, cond, eqb, Option, Some, None}
use Rattle.measure.specs.declared.Pitch.{Pitch}
use Rattle.measure.specs.declared.Ratio.{Ratio}
use Rattle.measure.specs.declared.Scale.{Scale}
use Rattle.measure.specs.declared.Scale.TheVariants.{Inch, Centimetre, Pica, Em, En, Point, Unit, LineSpace}

-- "Literals are whole digits with scale i .., c .., P .., m and n .., p .., u .., v ..": the scale of a letter, by its byte
unfoldable pub scale_of : ℕ → Option Scale
scale_of b =
    cond (eqb b 105) (Some Inch)
    (cond (eqb b 99) (Some Centimetre)
    (cond (eqb b 80) (Some Pica)
    (cond (eqb b 109) (Some Em)
    (cond (eqb b 110) (Some En)
    (cond (eqb b 112) (Some Point)
    (cond (eqb b 117) (Some Unit)
    (cond (eqb b 118) (Some LineSpace)
    None)))))))

-- "i 240, c 240×50/127, P 40, m and n 24, p 240/72, u 1, v 40": 24 is the cell and 40 the row, save that P is a sixth of an inch
abbrev pub ratio_of : Pitch → Scale → Ratio
ratio_of p Inch = record { units = 240; per = 1 }
ratio_of p Centimetre = record { units = 240 * 50; per = 127 }
ratio_of p Pica = record { units = 240; per = 6 }
ratio_of p Em = record { units = p.cell; per = 1 }
ratio_of p En = record { units = p.cell; per = 1 }
ratio_of p Point = record { units = 240; per = 72 }
ratio_of p Unit = record { units = 1; per = 1 }
ratio_of p LineSpace = record { units = p.row; per = 1 }

-- "Literals are whole digits with scale .. cut down to whole units"
abbrev pub literal_of : Pitch → Scale → ℕ → ℕ
literal_of p s n = n * (ratio_of p s).units / (ratio_of p s).per
