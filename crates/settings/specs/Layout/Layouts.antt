-- The settings as a whole, in the rules' terms, and what a request makes of them. Assumes nothing.
use Rattle.std.specs.Prelude.{◌≡◌, List, ℕ, ◌≤◌, ◌<◌, Option, None, Some, unwrap_or, Result}
use Rattle.measure.specs.declared.Cells.{Cells}
use Rattle.measure.specs.Pitches.{Sized}
use Rattle.measure.specs.Counts.{across_of, down_of}
use Rattle.rules.specs.Printers.{ten_to_the_inch}
use Rattle.rules.specs.Printers as printers
use Rattle.rules.specs.Refusals.{Judged, value, ◌>>=◌}
use Rattle.rules.specs.Results.{judged_by}
use Rattle.rules.specs.declared.Refusal.{Refusal}
use Rattle.rules.specs.Laws.Refusals.{Every}
use Rattle.rules.specs.Settings.{Across, Down}
use Rattle.rules.specs.LayoutSetters.{layout, with_line, with_indent, with_offset}
use Rattle.rules.specs.Settings as rule
use Rattle.rules.specs.Acts.{setting, set_line, set_page}
use Rattle.rules.specs.Filling.{room_now}
use Rattle.rules.specs.declared.LineSetting.{LineSetting}
use Rattle.rules.specs.declared.PageSetting.{PageSetting}
use Rattle.settings.specs.declared.lengths.Length.{Length}
use Rattle.settings.specs.declared.lengths.Length.TheVariants.{Line, Indent, Offset}
use Rattle.settings.specs.declared.layout.Printer.{Printer}
use Rattle.settings.specs.declared.layout.Layout.{Layout}
use Rattle.settings.specs.Lengths.Views.{setting_of, range_of}

-- the rules' printer
abbrev pub printer_of : Printer → printers.Printer
printer_of p = record { pitch = p.pitch; line = across_of p.line; page = down_of p.page }

-- a printer whose starting line and page are within "ll 1 to 240 cells" and "pl 1 to 500 rows"
pub record PrinterInvariant (p : Printer) : Type 0 where
  pub pitch : Sized p.pitch
  pub line_least : 1 ≤ across_of p.line
  pub line_most : across_of p.line ≤ 240
  pub page_least : 1 ≤ down_of p.page
  pub page_most : down_of p.page ≤ 500

-- "A cell is 24 units, a row 40"; "Start: ll 65, .. pl 66"
pub record TenToTheInch (p : Printer) : Type 0 where
  pub is : printer_of p ≡ ten_to_the_inch
  pub sound : PrinterInvariant p

-- the ti total, if one is kept
abbrev pub total_of : Option Cells → Option Across
total_of (Some c) = Some (across_of c)
total_of None = None

-- the rules' layout
abbrev pub layout_of : Layout → rule.Layout
layout_of y = layout (setting_of y.line) (setting_of y.indent) (setting_of y.offset) (down_of y.page) (total_of y.total) y.filling y.adjusting y.centred

-- "ll 1 to 240 cells, in and the ti total 0 to 239, po 0 to 120, pl 1 to 500 rows": the most of each, and of the value before
pub record LayoutInvariant (y : rule.Layout) : Type 0 where
  pub line : y.line.now ≤ 240
  pub line_former : y.line.former ≤ 240
  pub indent : y.indent.now ≤ 239
  pub indent_former : y.indent.former ≤ 239
  pub offset : y.offset.now ≤ 120
  pub offset_former : y.offset.former ≤ 120
  pub page_least : 1 ≤ y.page
  pub page_most : y.page ≤ 500
  pub total : unwrap_or y.total 0 ≤ 239

-- a layout that is this one of the rules', within the limits
pub record Laid (r : Layout) (y : rule.Layout) : Type 0 where
  pub is : layout_of r ≡ y
  pub limits : LayoutInvariant (layout_of r)

-- what a request finds: a sound printer, and a layout within the limits
pub record LayoutReady (p : Printer) (y : Layout) : Type 0 where
  pub printer : PrinterInvariant p
  pub limits : LayoutInvariant (layout_of y)

-- what a request gives after its break: a layout within the limits, with the page length as it was, or a refusal
pub record LineSettingRefines (p : Printer) (q : LineSetting) (y : Layout) (l : List ℕ) (r : Result Layout Refusal) : Type 0 where
  pub is : judged_by layout_of r ≡ set_line (printer_of p) q l (layout_of y)
  pub limits : Every LayoutInvariant (judged_by layout_of r)
  pub page : Every (λ z. z.page ≡ down_of y.page) (judged_by layout_of r)

-- what a request that does not break gives: a layout within the limits, with the page length above the rows used if it was, or a refusal
pub record PageSettingRefines (p : Printer) (q : PageSetting) (y : Layout) (used : Down) (l : List ℕ) (r : Result Layout Refusal) : Type 0 where
  pub is : judged_by layout_of r ≡ set_page (printer_of p) q used l (layout_of y)
  pub limits : Every LayoutInvariant (judged_by layout_of r)
  pub above : used < down_of y.page → Every (λ z. used < z.page) (judged_by layout_of r)

-- one of the three lengths in cells
abbrev pub length_of : Length → rule.Layout → rule.Setting
length_of Line y = y.line
length_of Indent y = y.indent
length_of Offset y = y.offset

-- and that one set anew
abbrev pub with_length : Length → rule.Setting → rule.Layout → rule.Layout
with_length Line v y = with_line v y
with_length Indent v y = with_indent v y
with_length Offset v y = with_offset v y

-- ll, in and po: the rules' `set_line` and `set_page` of them
abbrev pub set_length : printers.Printer → Length → List ℕ → rule.Layout → Judged rule.Layout
set_length p x l y = setting p (range_of x) (length_of x y) l >>= λ v. value (with_length x v y)

-- "Room is ll minus indent, 0 if that is negative"
pub record RoomIs (y : rule.Layout) (r : Cells) : Type 0 where
  pub is : across_of r ≡ room_now y
  pub most : across_of r ≤ 240
