-- The turns of a call lead from record to record as the rules lead from state to state. Assumes nothing.
use mathlib.Core.Path.{◌≡◌, refl, sym, ap, ap₂, ◌∙◌, subst}
use mathlib.Core.Bool.{true}
use mathlib.Core.List.{List}
use Prim.Native.Nat.{ℕ, ◌-◌, ◌≤◌}
use native.Mathlib.Omega.{arith}
use lib.ListN.{length, take}
use lib.IntN.{ℤ}
use Rattle.stream.specs.Machine.{works}
use Rattle.rules.specs.Printers.{Printer, ten_to_the_inch}
use Rattle.rules.specs.State.{State}
use Rattle.rules.specs.Rows.{Next}
use Rattle.rules.specs.Session.{step}
use Rattle.source_line.specs.declared.Source.{Source}
use Rattle.page.specs.declared.springs.Way.{Way}
use Rattle.page.specs.declared.springs.Way.TheVariants as way
use Rattle.page.specs.Springs.Held.{StackFits}
use Rattle.page.specs.Springs.Calls.{close_by}
use Rattle.state.specs.declared.Status.{Status}
use Rattle.state.specs.Whole.{WholeState, state_in, StateInvariant, KeptStore, StateRefines}
use Rattle.state.specs.Statuses.{whole_of}
use Rattle.formatter.specs.StoredLines.Works.{StepRefines}
use Rattle.record.specs.declared.RecordCore.{RecordCore}
use Rattle.record.specs.declared.Closing.TheVariants.{Open}
use Rattle.record.specs.View.{sourced, closed_as, state_of, most_lines}
use Rattle.record.specs.Turns.{record_of, closing_of, core_after, KeptBy, RecordRefines, DealReady}

-- a way closes a state as the record says
closes_as : (w : Way) (q : WholeState) (s : Source) (g : List ℕ) → close_by w (state_in q (sourced s g)) ≡ closed_as (closing_of w s.line) (state_in q (sourced s g))
closes_as way.On q s g = refl
closes_as way.Done q s g = refl
closes_as (way.Refused n) q s g = refl

low_last : (w : Way) (l : ℕ) → l ≤ 1000000 → l ≤ most_lines (closing_of w l)
low_last way.On l h = h
low_last way.Done l h = omega arith
low_last (way.Refused n) l h = omega arith

-- the store after a way
kept_by : (w : Way) (l : ℕ) (st st' : List ℕ) → KeptStore w st st' → KeptBy (closing_of w l) st st'
kept_by way.On l st st' k = tt
kept_by way.Done l st st' k = k
kept_by (way.Refused n) l st st' k = k

-- a source that a piece of work may find
pub record Found (s : Source) : Type 0 where
  pub short : s.length ≤ 512
  pub numbered : s.line ≤ 1000000
  pub counted : s.stored ≤ 10000

module _ (x : Next) (t : Status) (s : Source) (w : Way) (n : ℕ) (pl : RecordCore) (at : pl ≡ core_after t s w n)
    (g cs row bs ps tf ts ks ls fs ss : List ℕ) (vs us : List ℤ) (st : List ℕ) (long : length g ≡ 512) where
  abbrev q' : WholeState
  q' = whole_of t cs bs ps st tf ts ks ls fs ss vs us

  -- a piece of work leads to the record of its answer
  arrives : works (take n row) (close_by w (state_in q' (sourced s g))) ≡ x → StateInvariant q' → StackFits t.stack ps → n ≤ 872 → length row ≡ 872 → Found s
      → (st₀ : List ℕ) → KeptStore w st₀ st → RecordRefines x st₀ (record_of pl g cs row bs ps tf ts ks ls fs ss vs us) st
  arrives e sound fits few row_long f st₀ k =
      let m : n - 0 ≡ n = omega arith in
      subst (λ v. RecordRefines x st₀ (record_of v g cs row bs ps tf ts ks ls fs ss vs us) st) (sym at)
      (record {
        does = sym e ∙ ap₂ works (ap (λ v. take v row) (sym m)) (closes_as w q' s g);
        formed = record {
          sound = sound;
          fits = fits;
          gathered_long = long;
          row_long = row_long;
          short = f.short;
          numbered = low_last w s.line f.numbered;
          counted = f.counted;
          order = omega arith;
          inside = few;
        };
        kept = kept_by w s.line st₀ st k;
      })

  -- a line is dealt with
  pub line_dealt : (rule : State → Next) (q : WholeState) (line row₀ : List ℕ) → x ≡ rule (state_in q (sourced s g)) → DealReady q s line row₀ → StateRefines rule q w n q' row
      → RecordRefines x q.texts.store (record_of pl g cs row bs ps tf ts ks ls fs ss vs us) st
  line_dealt rule q line row₀ e h d =
      arrives (d.is (sourced s g) ∙ sym e) d.sound d.fits d.few d.long
      (record { short = omega (arith, h.none); numbered = h.numbered; counted = h.counted }) q.texts.store d.kept

-- one piece of work
module _ (t : Status) (s : Source) (w : Way) (n stored : ℕ) (pl : RecordCore) (at : pl ≡ core_after t (record { line = s.line; length = s.length; ended = s.ended; stored = stored }) w n)
    (g cs row bs ps tf ts ks ls fs ss : List ℕ) (vs us : List ℤ) (st : List ℕ) (long : length g ≡ 512) where
  pub item_worked : (p : Printer) → p ≡ ten_to_the_inch → (q : WholeState) → s.length ≤ 512 → s.line ≤ 1000000 → (q.page_state.stack.depth ≡ 0 → s.ended ≡ true)
      → StepRefines p q s.stored w n (whole_of t cs bs ps st tf ts ks ls fs ss vs us) stored row
      → RecordRefines (step ten_to_the_inch (state_in q (sourced s g))) q.texts.store (record_of pl g cs row bs ps tf ts ks ls fs ss vs us) st
  item_worked p is q short numbered ready d =
      arrives (step ten_to_the_inch (state_in q (sourced s g))) t (record { line = s.line; length = s.length; ended = s.ended; stored = stored }) w n pl at
      g cs row bs ps tf ts ks ls fs ss vs us st long
      (d.is (sourced s g) refl refl ready ∙ ap (λ v. step v (state_in q (sourced s g))) is) d.sound d.fits d.few d.long
      (record { short = short; numbered = numbered; counted = d.counted }) q.texts.store d.kept

-- a record that is open stands for its parts as they are
pub open_state : (pl : RecordCore) (g cs row bs ps tf ts ks ls fs ss : List ℕ) (vs us : List ℤ) (st : List ℕ) → pl.closing ≡ Open
    → state_of (record_of pl g cs row bs ps tf ts ks ls fs ss vs us) st ≡ state_in (whole_of pl.status cs bs ps st tf ts ks ls fs ss vs us) (sourced pl.source g)
open_state pl g cs row bs ps tf ts ks ls fs ss vs us st e = ap (λ v. closed_as v (state_in (whole_of pl.status cs bs ps st tf ts ks ls fs ss vs us) (sourced pl.source g))) e
