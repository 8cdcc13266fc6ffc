-- From a move down the page to a piece of work. Assumes nothing.
use mathlib.Core.Path.{◌≡◌, refl, sym, ap, ◌∙◌}
use mathlib.Core.List.{List}
use Prim.Native.Nat.{ℕ, ◌+◌, ◌≤◌}
use native.Mathlib.Omega.{arith}
use lib.ListN.{length, take, drop}
use lib.Seq.{sets-eq, take_at}
use Rattle.measure.specs.Counts.{across_of}
use Rattle.stream.specs.Machine.{works}
use Rattle.rules.specs.Texts.{Text}
use Rattle.rules.specs.State.{State}
use Rattle.rules.specs.Rows.{Next, down}
use Rattle.texts.specs.Table.Table.{texts_of}
use Rattle.traps.specs.declared.table.Planted.{Planted}
use Rattle.traps.specs.Table.Table.{planted_of}
use Rattle.traps.specs.Table.Table as traps
use Rattle.fill.specs.Collected.Writing.{Written}
use Rattle.fill.specs.Collected.Filled.{CollectedInvariant}
use Rattle.settings.specs.declared.layout.Layout.{Layout}
use Rattle.settings.specs.Layout.Layouts.{layout_of, LayoutInvariant}
use Rattle.std.specs.Prelude.{Option}
use Rattle.input_stack.specs.declared.frames.What.{What}
use Rattle.page.specs.declared.springs.Landed.{Landed}
use Rattle.page.specs.declared.springs.Way.{Way}
use Rattle.page.specs.Springs.Held.{held_of}
use Rattle.page.specs.Springs.Calls.{close_by, MoveRefines}
use Rattle.composition.specs.declared.page_rows.Collected.{Collected}
use Rattle.composition.specs.PageRows.PageState.{PageState, page_state, state_at, PageRefines, SmallGap}

-- What was written from the start of a row is in front.
pub written_front : (entry bytes exit : List ℕ) (answer : ℕ) → Written entry 0 bytes exit answer → answer ≤ length entry → take answer exit ≡ bytes
written_front entry bytes exit answer w h =
    let n : length bytes ≤ length entry = omega (arith, w.end) in
    let e : answer ≡ length bytes = omega (arith, w.end) in
    rw (e, w.is, sets-eq bytes entry 0 (omega arith)) (take_at bytes (drop (0 + length bytes) entry) (length bytes) refl)

module _ (rule : List Text → State → Next) (fs ss : List ℕ) (k : ℕ) (planted : Planted) (d : PageState) where
  -- a row and the move down
  module _ (y : Layout) (c : Collected) (cells : List ℕ) (h : Option What) (bytes : List ℕ) (n : ℕ) (r : Landed) (arena ends : List ℕ) (m : MoveRefines (down n) d.page y.page planted h bytes d.stack d.arena d.ends fs ss k r arena ends) where
    pub moves_on : (text row : List ℕ) (written : ℕ) → take written row ≡ text → written ≤ 872 → length row ≡ 872
        → ((ts : List Text) (x : State) → rule ts (state_at ts (planted_of planted) d x)
        ≡ works text (down n (held_of ts h bytes) (state_at ts (planted_of planted) (page_state y d.page c cells d.stack d.arena d.ends) x)))
        → LayoutInvariant (layout_of y) → d.page.number ≤ 1000000 → traps.TrapsInvariant planted → CollectedInvariant cells c.length (across_of c.room) → across_of c.indent ≤ 239 → SmallGap c.next
        → PageRefines rule fs ss k planted d r.way written (page_state y r.page c cells r.stack arena ends) row
    moves_on text row written e few long law limits number within line indent next = record {
      is = λ st ks ls i x.
          let ts = texts_of st fs ss ks ls k in
          ap (λ (t : List ℕ). works t (close_by r.way (state_at ts (planted_of planted) (page_state y r.page c cells r.stack arena ends) x))) e
          ∙ ap (works text) (m.is st ks ls i (state_at ts (planted_of planted) (page_state y d.page c cells d.stack d.arena d.ends) x))
          ∙ sym (law ts x);
      good = m.good;
      sound = record { limits = limits; above = m.within; numbered = m.numbered number; few = within; line = line; indent = indent; next = next; columns = m.columns };
      fits = m.fits;
      few = few;
      long = long;
    }

  -- the same work from another page state with the same stack
  pub worked_as : (rule₁ : List Text → State → Next) (y : Layout) (c : Collected) (cells : List ℕ) (w : Way) (written : ℕ) (d' : PageState) (row : List ℕ)
      → PageRefines rule₁ fs ss k planted (page_state y d.page c cells d.stack d.arena d.ends) w written d' row
      → ((ts : List Text) (x : State) → rule ts (state_at ts (planted_of planted) d x) ≡ rule₁ ts (state_at ts (planted_of planted) (page_state y d.page c cells d.stack d.arena d.ends) x))
      → PageRefines rule fs ss k planted d w written d' row
  worked_as rule₁ y c cells w written d' row v law = record {
    is = λ st ks ls i x. v.is st ks ls i x ∙ sym (law (texts_of st fs ss ks ls k) x);
    good = v.good;
    sound = v.sound;
    fits = v.fits;
    few = v.few;
    long = v.long;
  }
