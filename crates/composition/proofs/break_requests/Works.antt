-- The work of a breaking request, in the rules' terms. Assumes nothing.
use mathlib.Core.Path.{◌≡◌, refl, sym, ap, ◌∙◌}
use mathlib.Core.Bool.{Bool, true, false, ◌&&◌, false≢true}
use mathlib.Core.List.{List}
use Prim.Native.Nat.{ℕ, ◌<◌}
use native.Mathlib.Omega.{arith}
use lib.IntN.{ℤ}
use Rattle.measure.specs.Counts.{across_of, down_of}
use Rattle.rules.specs.declared.Name.{Name}
use Rattle.rules.specs.declared.Trap.{Trap}
use Rattle.rules.specs.declared.Breaking.{Breaking}
use Rattle.rules.specs.declared.LineSetting.{LineSetting}
use Rattle.rules.specs.Printers as printers
use Rattle.rules.specs.Refusals.{Judged, value}
use Rattle.rules.specs.Laws.Refusals.{Every, every_map}
use Rattle.rules.specs.Texts.{Text}
use Rattle.rules.specs.State.{State, Item}
use Rattle.rules.specs.Rows.{goes, skip, start_page, break}
use Rattle.rules.specs.Acts.{on_value, spacing, act}
use Rattle.rules.specs.ControlLines.{start_or_break, break_or_act}
use Rattle.traps.specs.declared.table.Planted.{Planted}
use Rattle.fill.specs.Collected.Filled.{collected_line}
use Rattle.settings.specs.declared.layout.Printer.{Printer}
use Rattle.std.specs.Prelude.{Result}
use Rattle.rules.specs.declared.Refusal.{Refusal}
use Rattle.rules.specs.Results.{judged_by}
use Rattle.settings.specs.declared.layout.Layout.{Layout}
use Rattle.settings.specs.Layout.Layouts.{layout_of, LineSettingRefines}
use Rattle.page.specs.Springs.Held.{held_of}
use Rattle.composition.specs.PageRows.PageState.{PageState, collected_if, state_at, PageInvariant}
use Rattle.composition.specs.BreakRequests.Acting.{space_by}
use Rattle.composition.specs.BreakRequests.Obeying.{held_line, held_request, starts_first, obeyed, line_held, request_held}

-- a new layout has the page length that it had
pub page_above : (p : Printer) (q : LineSetting) (planted : Planted) (d : PageState) (a : List ℕ) (new : Result Layout Refusal) → PageInvariant planted d → LineSettingRefines p q d.layout a new
    → Every (λ y. down_of d.page.used < y.page) (judged_by layout_of new)
page_above p q planted d a new s h = every_map h.page (λ y e. omega (arith, s.above, e))

-- sp of a number
pub spaced_by : (p : printers.Printer) (a : List ℕ) (z : ℤ) (s : State) → value z ≡ spacing p a → skip z s ≡ space_by p a s
spaced_by p a z s e = ap (λ (j : Judged ℤ). on_value j s (λ n. skip n s)) e

module _ (p : printers.Printer) (r : Breaking) (l : List ℕ) (d : PageState) (ps : List Trap) (ts : List Text) (x : State) where
  -- by whether there is a period and a line is collected
  broken : (q there : Bool) → (q && there) ≡ true
      → break (collected_line (across_of d.collected.indent) (across_of d.collected.room) d.cells d.collected.length (across_of d.collected.next)) (held_of ts (held_request r) l) (state_at ts ps d x)
      ≡ break_or_act p q (collected_if there d.collected d.cells) r l (state_at ts ps d x)
  broken true true e = ap (λ (h : List Item). break (collected_line (across_of d.collected.indent) (across_of d.collected.room) d.cells d.collected.length (across_of d.collected.next)) h (state_at ts ps d x)) (request_held ts r l)
  broken true false e = absurd (false≢true e)
  broken false there e = absurd (false≢true e)

  acted : (q there : Bool) → (q && there) ≡ false → act p r l (state_at ts ps d x) ≡ break_or_act p q (collected_if there d.collected d.cells) r l (state_at ts ps d x)
  acted true true e = absurd (false≢true (sym e))
  acted true false e = refl
  acted false there e = refl

  module _ (q : Bool) (n : Name) where
    -- the first page starts
    pub starts_is : starts_first d.page.number q r ≡ true → goes (start_page (held_of ts (held_line q r n) l) (state_at ts ps d x)) ≡ obeyed p q r n l (state_at ts ps d x)
    starts_is e =
        let s = state_at ts ps d x in
        ap (λ (h : List Item). goes (start_page h s)) (line_held ts q r n l) ∙ ap (λ (t : Bool). start_or_break p t q r n l s) (sym e)

    -- the collected line is broken
    pub breaks_is : starts_first d.page.number q r ≡ false → (q && d.collected.there) ≡ true
        → break (collected_line (across_of d.collected.indent) (across_of d.collected.room) d.cells d.collected.length (across_of d.collected.next)) (held_of ts (held_request r) l) (state_at ts ps d x)
        ≡ obeyed p q r n l (state_at ts ps d x)
    breaks_is e f = broken q d.collected.there f ∙ ap (λ (t : Bool). start_or_break p t q r n l (state_at ts ps d x)) (sym e)

    -- the request acts
    pub acts_is : starts_first d.page.number q r ≡ false → (q && d.collected.there) ≡ false → act p r l (state_at ts ps d x) ≡ obeyed p q r n l (state_at ts ps d x)
    acts_is e f = acted q d.collected.there f ∙ ap (λ (t : Bool). start_or_break p t q r n l (state_at ts ps d x)) (sym e)
