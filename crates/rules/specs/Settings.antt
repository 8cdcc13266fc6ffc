-- Settings (document 01: the ranges and the start under 'Refusal numbers', changes under 'Numbers', missing arguments under 'Lines and escapes').
use Rattle.std.specs.Prelude.{Bool, true, false, ◌&&◌, ℕ, suc, leb, ℤ, pos, negsuc, ◌+ℤ◌, Option, None}
use Rattle.rules.specs.Printers.{Printer}
use Rattle.rules.specs.Refusals.{Judged, bad, judge}

-- "Counts of cells across and counts of rows down are two measures": both are numbers here, and in the code two types
abbrev pub Across : Type 0
Across = ℕ

-- rows down
abbrev pub Down : Type 0
Down = ℕ

-- "ll in po the value before the last setting": a value, and the one before the last setting
pub record Setting : Type 0 where
  pub now : Across
  pub former : Across

-- the settings in force
pub record Layout : Type 0 where
  -- ll, in and po
  pub line : Setting
  pub indent : Setting
  pub offset : Setting
  -- pl
  pub page : Down
  -- the ti total, "kept for the next output line of text"
  pub total : Option Across
  pub filling : Bool
  pub adjusting : Bool
  -- the input lines that ce has still to centre
  pub centred : ℕ

-- a new value; and a bare ll, in or po, which is a setting too
abbrev pub new_setting : Across → Setting → Setting
new_setting n v = record { now = n; former = v.now }

-- "the value before the last setting"
abbrev pub go_back : Setting → Setting
go_back v = new_setting v.former v

-- a setting that has not been changed yet
abbrev pub steady : Across → Setting
steady n = record { now = n; former = n }

-- "Start: ll 65, in 0, po 0, pl 66, filling and adjusting on"
abbrev pub start_layout : Printer → Layout
start_layout p = record {
  line = steady p.line;
  indent = steady 0;
  offset = steady 0;
  page = p.page;
  total = None;
  filling = true;
  adjusting = true;
  centred = 0;
}

-- "a leading sign marks a change to the old value by the whole expression"
abbrev pub changed : (signed : Bool) → ℕ → ℤ → ℤ
changed true old v = pos old +ℤ v
changed false old v = v

-- "7: value out of range"
abbrev pub in_range : ℕ → ℕ → ℤ → Judged ℕ
in_range low high (pos n) = judge (leb low n && leb n high) 7 n
in_range low high (negsuc n) = bad 7

-- "ll 1 to 240 cells, in and the ti total 0 to 239, po 0 to 120"
abbrev pub line_range : ℤ → Judged Across
line_range = in_range 1 240

-- "in and the ti total 0 to 239"
abbrev pub indent_range : ℤ → Judged Across
indent_range = in_range 0 239

-- "po 0 to 120"
abbrev pub offset_range : ℤ → Judged Across
offset_range = in_range 0 120

-- "pl 1 to 500 rows and above the rows already used on the page"
abbrev pub page_range : (used : Down) → ℤ → Judged Down
page_range used = in_range (suc used) 500
