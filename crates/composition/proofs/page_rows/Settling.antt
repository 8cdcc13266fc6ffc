-- A new layout as a piece of work. Assumes nothing.
use mathlib.Core.Path.{◌≡◌, refl, ap}
use mathlib.Core.List.{List}
use Prim.Native.Nat.{ℕ, ◌≤◌, ◌<◌}
use native.Mathlib.Omega.{arith}
use lib.ListN.{length}
use Rattle.measure.specs.Counts.{down_of}
use Rattle.rules.specs.Refusals.{Judged}
use Rattle.rules.specs.Laws.Refusals.{Every}
use Rattle.rules.specs.Settings as rule
use Rattle.rules.specs.Texts.{Text}
use Rattle.rules.specs.State.{State}
use Rattle.rules.specs.Acts.{laid_out}
use Rattle.texts.specs.Table.Table.{texts_of}
use Rattle.traps.specs.declared.table.Planted.{Planted}
use Rattle.traps.specs.Table.Table.{planted_of}
use Rattle.std.specs.Prelude.{Result, Ok, Err}
use Rattle.rules.specs.declared.Refusal.{Refusal}
use Rattle.rules.specs.Results.{judged_by}
use Rattle.settings.specs.declared.layout.Layout.{Layout}
use Rattle.settings.specs.Layout.Layouts.{layout_of, LayoutInvariant}
use Rattle.settings.specs.Layout.LayoutLaws.{of_new}
use Rattle.page.proofs.springs.Stacks.{fits_few}
use Rattle.composition.specs.PageRows.PageState.{PageState, page_state, state_at, PageInvariant, PageRefines, settled_by}

module _ (fs ss : List ℕ) (n : ℕ) (planted : Planted) (d : PageState) (row : List ℕ) (s : PageInvariant planted d) (few : d.stack.depth ≤ 16) (long : length row ≡ 872) (set : State → Judged rule.Layout) where
  -- a new layout is taken, or its refusal closes
  pub settle_works : (new : Result Layout Refusal) → ((ts : List Text) (x : State) → judged_by layout_of new ≡ set (state_at ts (planted_of planted) d x))
      → Every LayoutInvariant (judged_by layout_of new) → Every (λ y. down_of d.page.used < y.page) (judged_by layout_of new)
      → let r = settled_by new d.layout d.page d.collected d.stack in
      PageRefines (λ ts x. laid_out (set x) x) fs ss n planted d r.way r.written (page_state r.layout r.page r.collected d.cells r.stack d.arena d.ends) row
  settle_works (Ok y) e l a = record {
    is = λ st ks ls i x. let ts = texts_of st fs ss ks ls n in ap (λ (j : Judged rule.Layout). laid_out j (state_at ts (planted_of planted) d x)) (e ts x);
    good = λ st ks ls i k. k;
    sound = record { limits = of_new (Ok y) y l refl; above = of_new (Ok y) y a refl; numbered = s.numbered; few = s.few; line = s.line; indent = s.indent; next = s.next; columns = s.columns };
    fits = fits_few d.stack d.ends few;
    few = omega arith;
    long = long;
  }
  settle_works (Err r) e l a = record {
    is = λ st ks ls i x. let ts = texts_of st fs ss ks ls n in ap (λ (j : Judged rule.Layout). laid_out j (state_at ts (planted_of planted) d x)) (e ts x);
    good = λ st ks ls i k. k;
    sound = s;
    fits = fits_few d.stack d.ends few;
    few = omega arith;
    long = long;
  }
