-- if as a piece of work. Assumes nothing.
use mathlib.Core.Path.{◌≡◌, refl, sym, ap, ◌∙◌}
use mathlib.Core.Bool.{Bool, true, false, not}
use mathlib.Core.List.{List, [], ◌∷◌}
use Prim.Native.Nat.{ℕ, ◌-◌, ◌≤◌, ◌<◌}
use native.Mathlib.Omega.{arith}
use lib.Dec.{eqb}
use lib.ListN.{length, take, drop, length-drop}
use lib.Seq.{length-take-le, take_all}
use Rattle.rules.specs.Bytes.{byte}
use Rattle.rules.specs.Printers as printers
use Rattle.rules.specs.Refusals.{Judged, value, ◌>>=◌}
use Rattle.rules.specs.Texts.{Text}
use Rattle.rules.specs.Arguments.{Part}
use Rattle.rules.specs.State.{State, Item, again}
use Rattle.rules.specs.StateSetters.{with_stack}
use Rattle.rules.specs.Rows.{Next, goes}
use Rattle.rules.specs.Lines.{line_of, simply_holds, holds_if, holds}
use Rattle.rules.specs.Acts.{settles, follows, if_line, decide}
use Rattle.texts.specs.Table.Table.{texts_of}
use Rattle.line_syntax.specs.declared.lines.ConditionPart.{ConditionPart}
use Rattle.line_syntax.specs.Lines.Places.{ConditionAt}
use Rattle.traps.specs.declared.table.Planted.{Planted}
use Rattle.traps.specs.Table.Table.{planted_of}
use Rattle.settings.specs.declared.layout.Printer.{Printer}
use Rattle.settings.specs.declared.layout.Layout.{Layout}
use Rattle.std.specs.Prelude.{Some, Result}
use Rattle.rules.specs.declared.Refusal.{Refusal}
use Rattle.rules.specs.Results.{judged}
use Rattle.settings.specs.Lengths.Views.{printer}
use Rattle.settings.specs.Layout.Layouts.{printer_of}
use Rattle.input_stack.specs.declared.frames.What.{What}
use Rattle.input_stack.specs.declared.stack.Stack.{Stack}
use Rattle.input_stack.specs.Stack.Items.{item_by, stack_of}
use Rattle.page.specs.declared.position.Page.{Page}
use Rattle.page.specs.declared.springs.Way.TheVariants.{On}
use Rattle.page.specs.Springs.Held.{no_ends, PlainItem, HeldTo}
use Rattle.page.proofs.springs.Stacks.{over_items, over_good, over_fits}
use Rattle.composition.specs.declared.page_rows.Collected.{Collected}
use Rattle.composition.specs.PageRows.PageState.{page_state, state_at, PageInvariant, PageRefines}
use Rattle.composition.specs.NoBreakRequests.Following.{followed, Followed}

-- all bytes from a place on
pub all_from : (l : List ℕ) (at : ℕ) → take (length l - at) (drop at l) ≡ drop at l
all_from l at = take_all (length l - at) (drop at l) (omega (arith, length-drop at l))

-- What holds of a condition depends on the pitch alone.
module _ (p : Printer) (page : ℕ) where
  simply_same : (l : List ℕ) → simply_holds (printer p.pitch 0) page l ≡ simply_holds (printer_of p) page l
  simply_same [] = refl
  simply_same (b ∷ []) = refl
  simply_same (b ∷ c ∷ l) = refl

  if_same : (t : Bool) (b : ℕ) (l : List ℕ) → holds_if (printer p.pitch 0) page t b l ≡ holds_if (printer_of p) page t b l
  if_same true b l = ap (λ (j : Judged Bool). j >>= λ v. value (not v)) (simply_same l)
  if_same false b l = simply_same (b ∷ l)

  holds_same : (l : List ℕ) → holds (printer p.pitch 0) page l ≡ holds (printer_of p) page l
  unfolding holds
  holds_same [] = refl
  holds_same (b ∷ l) = if_same (eqb b (byte "!")) b l

-- a condition that is there is judged
if_judged : (p : printers.Printer) (l rest : List ℕ) (s : State) → 0 < length l → if_line p l rest s ≡ (holds p s.page.number l >>= λ v. value (follows v rest s))
if_judged p [] rest s h = absurd (omega arith)
if_judged p (b ∷ l) rest s h = refl

module _ (p : Printer) (line : List ℕ) (r : ConditionPart) (h : ConditionAt line 0 r) (s : State) where
  if_is : settles (if_line (printer_of p) (take (r.to - r.from) (drop r.from line)) (drop r.rest line) s) s ≡ settles (decide (printer_of p) line s) s
  unfolding decide
  if_is = ap (λ (c : Part). settles (if_line (printer_of p) c.part c.rest s) s) h.is

  -- `.if` alone does nothing
  pub if_none : r.from ≡ r.to → goes s ≡ settles (decide (printer_of p) line s) s
  if_none e =
      let z : r.to - r.from ≡ 0 = omega arith in
      sym (ap (λ (n : ℕ). settles (if_line (printer_of p) (take n (drop r.from line)) (drop r.rest line) s) s) z) ∙ if_is

  -- else the condition says whether the rest follows
  pub if_holds : (v : Result Bool Refusal) → judged v ≡ holds (printer p.pitch 0) s.page.number (take (r.to - r.from) (drop r.from line)) → r.from < r.to
      → settles (judged v >>= λ t. value (follows t (drop r.rest line) s)) s ≡ settles (decide (printer_of p) line s) s
  if_holds v e d =
      let l = take (r.to - r.from) (drop r.from line) in let rest = drop r.rest line in
      let k : r.to - r.from ≤ length (drop r.from line) = omega (arith, length-drop r.from line, h.onward, h.inside) in
      ap (λ (j : Judged Bool). settles (j >>= λ t. value (follows t rest s)) s) (e ∙ holds_same p s.page.number l)
      ∙ sym (ap (λ (j : Judged State). settles j s) (if_judged (printer_of p) l rest s (omega (arith, length-take-le (r.to - r.from) (drop r.from line) k))))
      ∙ if_is

followed_some : (l : List ℕ) (k : List Item) → 0 < length l → again (line_of l) ∷ k ≡ followed l k
followed_some [] k h = absurd (omega arith)
followed_some (b ∷ l) k h = refl

module _ (rest : List ℕ) (s : Stack) (arena ends : List ℕ) (d : s.depth ≤ 16) where
  -- a line follows
  pub followed_line : (w : What) (bytes : List ℕ) (r : Stack) (arena' ends' : List ℕ) → HeldTo (Some w) bytes s arena ends r arena' ends' → PlainItem w → 0 < length rest
      → ((ts : List Text) → item_by ts w bytes no_ends ≡ again (line_of rest)) → Followed rest s arena ends r arena' ends'
  followed_line w bytes r arena' ends' t e h law = record {
    is = λ ts.
        over_items (Some w) bytes s arena ends r arena' ends' t ts
        ∙ ap (λ (i : Item). i ∷ stack_of ts s arena ends) (law ts)
        ∙ followed_some rest (stack_of ts s arena ends) h;
    good = λ ts g. over_good (Some w) bytes s arena ends r arena' ends' t ts e g;
    columns = t.columns;
    fits = over_fits (Some w) bytes s arena ends r arena' ends' t e d;
  }

follows_is : (rest : List ℕ) (s : State) → goes (with_stack (followed rest s.input.stack) s) ≡ goes (follows true rest s)
follows_is [] s = refl
follows_is (b ∷ l) s = refl

module _ (fs ss : List ℕ) (n : ℕ) (planted : Planted) (y : Layout) (g : Page) (c : Collected) (cells : List ℕ) (k : Stack) (arena ends row : List ℕ) (s : PageInvariant planted (page_state y g c cells k arena ends)) (few : k.depth ≤ 16) (long : length row ≡ 872) where
  -- the rest of an if has followed
  pub follows_on : (rule : List Text → State → Next) (rest : List ℕ) (r : Stack) (arena' ends' : List ℕ) → Followed rest k arena ends r arena' ends'
      → ((ts : List Text) (x : State) → let v = state_at ts (planted_of planted) (page_state y g c cells k arena ends) x in goes (follows true rest v) ≡ rule ts v)
      → PageRefines rule fs ss n planted (page_state y g c cells k arena ends) On 0 (page_state y g c cells r arena' ends') row
  follows_on rule rest r arena' ends' f law = record {
    is = λ st ks ls i x.
        let ts = texts_of st fs ss ks ls n in let v = state_at ts (planted_of planted) (page_state y g c cells k arena ends) x in
        ap (λ (q : List Item). goes (with_stack q v)) (f.is ts) ∙ follows_is rest v ∙ law ts x;
    good = λ st ks ls i h. f.good (texts_of st fs ss ks ls n) h;
    sound = record { limits = s.limits; above = s.above; numbered = s.numbered; few = s.few; line = s.line; indent = s.indent; next = s.next; columns = f.columns };
    fits = f.fits;
    few = omega arith;
    long = long;
  }
