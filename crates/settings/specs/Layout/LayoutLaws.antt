-- The limits of a layout are kept by what requests make of it. Assumes nothing.
use Rattle.std.specs.Prelude.{◌≡◌, true, false, List, [], ◌∷◌, ℕ, ◌≤◌, Option, None, Some, unwrap_or, Result, Ok}
use Rattle.std.proofs.Common.{ap, arith}
use Rattle.rules.specs.Printers.{Printer}
use Rattle.rules.specs.Laws.Refusals.{Every, every_value, of_value, every, every_of}
use Rattle.rules.specs.Laws.Settings.{in_range_lem, page_between}
use Rattle.rules.specs.Numbers.{cells, signed}
use Rattle.rules.specs.Settings.{Setting, Layout, changed, in_range}
use Rattle.rules.specs.LayoutSetters.{with_line, with_indent, with_offset, with_page_length, with_filling, with_adjusting, with_centred}
use Rattle.rules.specs.Filling.{indent_now, room_now, begun}
use Rattle.rules.specs.TextLines.{counted}
use Rattle.rules.specs.Acts.{setting, indent_total, centring, set_line, set_page}
use Rattle.rules.specs.declared.LineSetting.{LineSetting}
use Rattle.rules.specs.declared.LineSetting.TheVariants.{Fi, Nf, Ce, In, Ti}
use Rattle.rules.specs.declared.PageSetting.{PageSetting}
use Rattle.rules.specs.declared.PageSetting.TheVariants.{Pl, Po, Ll, Ad, Na}
use Rattle.settings.specs.declared.layout.Layout as own
use Rattle.rules.specs.declared.Refusal.{Refusal}
use Rattle.rules.specs.Results.{judged_by}
use Rattle.settings.specs.Layout.Layouts.{layout_of, LayoutInvariant}

-- what holds of a new layout that is given
pub of_new : {P : Layout → Type 0} (r : Result own.Layout Refusal) (z : own.Layout) → Every P (judged_by layout_of r) → r ≡ Ok z → P (layout_of z)
of_new r z h e = of_value h (ap (judged_by layout_of) e)

-- a setting, and the one before, of at most so many cells
pub record Most (high : ℕ) (v : Setting) : Type 0 where
  pub now : v.now ≤ high
  pub former : v.former ≤ high

module _ (p : Printer) where
  setting_most : (low high : ℕ) (old : Setting) (l : List ℕ) → Most high old → Every (Most high) (setting p (in_range low high) old l)
  setting_most low high old [] h = every_value (record { now = h.former; former = h.now })
  setting_most low high old (b ∷ l) h =
      every (cells p.pitch (b ∷ l)) _ (λ v. every_of _ (in_range_lem low high (changed (signed (b ∷ l)) old.now v)) (λ n k. every_value (record { now = k.most; former = h.now })))

  total_limits : (l : List ℕ) (y : Layout) → LayoutInvariant y → Every LayoutInvariant (indent_total p l y)
  total_limits [] y h = every_value h
  total_limits (b ∷ l) y h =
      every (cells p.pitch (b ∷ l)) _ (λ v. every_of _ (in_range_lem 0 239 (changed (signed (b ∷ l)) y.indent.now v)) (λ n k. every_value (omega arith)))

  -- the limits are kept
  pub set_line_limits : (q : LineSetting) (l : List ℕ) (y : Layout) → LayoutInvariant y → Every LayoutInvariant (set_line p q l y)
  set_line_limits Fi l y h = every_value {a = with_filling true y} (omega arith)
  set_line_limits Nf l y h = every_value {a = with_filling false y} (omega arith)
  set_line_limits Ce l y h = every (centring p l) _ (λ n. every_value {a = with_centred n y} (omega arith))
  set_line_limits In l y h = every_of _ (setting_most 0 239 y.indent l (omega arith)) (λ v k. every_value {a = with_indent v y} (omega arith))
  set_line_limits Ti l y h = total_limits l y h

  pub set_page_limits : (q : PageSetting) (used : ℕ) (l : List ℕ) (y : Layout) → LayoutInvariant y → Every LayoutInvariant (set_page p q used l y)
  set_page_limits Pl u l y h = every_of _ (page_between p u y.page l) (λ n k. every_value {a = with_page_length n y} (omega arith))
  set_page_limits Po u l y h = every_of _ (setting_most 0 120 y.offset l (omega arith)) (λ v k. every_value {a = with_offset v y} (omega arith))
  set_page_limits Ll u l y h = every_of _ (setting_most 1 240 y.line l (omega arith)) (λ v k. every_value {a = with_line v y} (omega arith))
  set_page_limits Ad u l y h = every_value {a = with_adjusting true y} (omega arith)
  set_page_limits Na u l y h = every_value {a = with_adjusting false y} (omega arith)

module _ (y : Layout) (h : LayoutInvariant y) where
  -- so are they where a line begins or is counted
  pub begun_limits : LayoutInvariant (begun y)
  begun_limits = omega arith

  pub counted_limits : LayoutInvariant (counted y)
  counted_limits = omega arith

  -- the indent and the room of a line
  pub room_most : room_now y ≤ 240
  room_most = omega arith

indent_by : (t : Option ℕ) (n : ℕ) → unwrap_or t 0 ≤ 239 → n ≤ 239 → unwrap_or t n ≤ 239
indent_by None n h k = k
indent_by (Some m) n h k = h

pub indent_most : (y : Layout) → LayoutInvariant y → indent_now y ≤ 239
indent_most y h = indent_by y.total y.indent.now h.total h.indent
