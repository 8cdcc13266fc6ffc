-- What the answers stand for, in the rules' terms, over a pitch. Assumes nothing.
use Rattle.std.specs.Prelude.{List, ℕ, ℤ}
use Rattle.measure.specs.declared.Pitch.{Pitch}
use Rattle.measure.specs.Counts.{across_of}
use Rattle.rules.specs.Printers.{Printer}
use Rattle.rules.specs.Refusals.{Judged, ◌>>=◌}
use Rattle.rules.specs.Numbers.{cells, rows, signed}
use Rattle.rules.specs.Settings as rule
use Rattle.rules.specs.Acts.{setting}
use Rattle.settings.specs.declared.lengths.Setting.{Setting}
use Rattle.settings.specs.declared.lengths.Length.{Length}
use Rattle.settings.specs.declared.lengths.Length.TheVariants.{Line, Indent, Offset}

-- the rules' setting
abbrev pub setting_of : Setting → rule.Setting
setting_of s = record { now = across_of s.now; former = across_of s.former }

-- a printer of a pitch: only pl without a number asks for more
abbrev pub printer : Pitch → (page : ℕ) → Printer
printer p n = record { pitch = p; line = 0; page = n }

-- "ll 1 to 240 cells, in and the ti total 0 to 239, po 0 to 120"
abbrev pub range_of : Length → ℤ → Judged ℕ
range_of Line = rule.line_range
range_of Indent = rule.indent_range
range_of Offset = rule.offset_range

abbrev pub setting_in : Pitch → (ℤ → Judged ℕ) → rule.Setting → List ℕ → Judged rule.Setting
setting_in p = setting (printer p 0)

-- pl with an argument
abbrev pub page_length_in : Pitch → (used old : ℕ) → List ℕ → Judged ℕ
page_length_in p used old l = rows p l >>= λ v. rule.page_range used (rule.changed (signed l) old v)

-- ti with an argument
abbrev pub total_in : Pitch → (indent : ℕ) → List ℕ → Judged ℕ
total_in p old l = cells p l >>= λ v. rule.indent_range (rule.changed (signed l) old v)
