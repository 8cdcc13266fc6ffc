-- What a session is told of its printer (document 01, 'What is built', and the start under 'Refusal numbers'). Assumes nothing.
use Rattle.std.specs.Prelude.{ℕ}
use Rattle.measure.specs.declared.Pitch.{Pitch}
use Rattle.measure.specs.Pitches.{ten_pitch}

-- the pitch, the cells of the starting line and the rows of the starting page
pub record Printer : Type 0 where
  pub pitch : Pitch
  pub line : ℕ
  pub page : ℕ

-- "A cell is 24 units, a row 40"; "Start: ll 65, .. pl 66"
abbrev pub ten_to_the_inch : Printer
ten_to_the_inch = record { pitch = ten_pitch; line = 65; page = 66 }
