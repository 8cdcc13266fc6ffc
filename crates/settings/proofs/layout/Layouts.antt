-- A new layout refines its request, by its equation alone. Assumes nothing.
use Rattle.std.specs.Prelude.{Result}
use mathlib.Core.Path.{◌≡◌}
use mathlib.Core.List.{List}
use Prim.Native.Nat.{ℕ}
use Rattle.rules.specs.Laws.Refusals.{every_map}
use Rattle.rules.specs.Laws.Settings.{set_line_page, set_page_above}
use Rattle.rules.specs.Acts.{set_line, set_page}
use Rattle.rules.specs.declared.LineSetting.{LineSetting}
use Rattle.rules.specs.declared.PageSetting.{PageSetting}
use Rattle.settings.specs.declared.layout.Printer.{Printer}
use Rattle.settings.specs.declared.layout.Layout.{Layout}
use Rattle.rules.specs.declared.Refusal.{Refusal}
use Rattle.rules.specs.Results.{judged_by}
use Rattle.settings.specs.Layout.Layouts.{printer_of, layout_of, LayoutReady, LineSettingRefines, PageSettingRefines}
use Rattle.settings.specs.Layout.LayoutLaws.{set_line_limits, set_page_limits}

-- what a request made, by its equation
pub line_set : (p : Printer) (q : LineSetting) (y : Layout) (l : List ℕ) (r : Result Layout Refusal) → LayoutReady p y → judged_by layout_of r ≡ set_line (printer_of p) q l (layout_of y) → LineSettingRefines p q y l r
line_set p q y l r h e = record {
  is = e;
  limits = rw e (set_line_limits (printer_of p) q l (layout_of y) h.limits);
  page = rw e (set_line_page (printer_of p) q l (layout_of y));
}

pub page_set : (p : Printer) (q : PageSetting) (y : Layout) (used : ℕ) (l : List ℕ) (r : Result Layout Refusal) → LayoutReady p y
    → judged_by layout_of r ≡ set_page (printer_of p) q used l (layout_of y) → PageSettingRefines p q y used l r
page_set p q y used l r h e = record {
  is = e;
  limits = rw e (set_page_limits (printer_of p) q used l (layout_of y) h.limits);
  above = λ k. rw e (every_map (set_page_above (printer_of p) q used l (layout_of y) (k, h.limits.page_most)) (λ z i. i.0));
}
