-- The call of a text by its name as a piece of work. Assumes nothing.
use Rattle.std.specs.Prelude.{Option, None, Some, Result}
use mathlib.Core.Path.{◌≡◌, refl, sym, ap, ◌∙◌}
use mathlib.Core.List.{List, []}
use Prim.Native.Nat.{ℕ, ◌≤◌}
use native.Mathlib.Omega.{arith}
use lib.ListN.{length}
use Rattle.rules.specs.declared.Name.{Name}
use Rattle.rules.specs.Texts.{Text, text_of}
use Rattle.rules.specs.Arguments.{arguments}
use Rattle.rules.specs.Rows.{goes, call}
use Rattle.rules.specs.declared.Refusal.{Refusal}
use Rattle.texts.specs.Table.Places.{text_place}
use Rattle.texts.specs.Table.Table.{names_of, texts_of, TextsInvariant}
use Rattle.texts.proofs.table.Laws.{found_text, not_text}
use Rattle.scan.specs.Arguments.Around.{arguments_of}
use Rattle.traps.specs.declared.table.Planted.{Planted}
use Rattle.traps.specs.Table.Table.{planted_of}
use Rattle.settings.specs.declared.layout.Layout.{Layout}
use Rattle.input_stack.specs.declared.stack.Stack.{Stack}
use Rattle.page.specs.declared.position.Page.{Page}
use Rattle.page.specs.Springs.Calls.{way_of, stack_after, TextCallRefines}
use Rattle.page.proofs.springs.Stacks.{fits_few}
use Rattle.composition.specs.declared.page_rows.Collected.{Collected}
use Rattle.composition.specs.PageRows.PageState.{page_state, state_at, PageInvariant, PageRefines}
use Rattle.composition.specs.TextCalls.Calls.{called_text, Known}

-- a name that a text has is known
pub known : (m : Name) (st fs ss ks ls : List ℕ) (n : ℕ) (t : Text) → TextsInvariant st fs ss ks ls n → text_of m (texts_of st fs ss ks ls n) ≡ Some t → Known m fs ss n
known m st fs ss ks ls n t i h = go (text_place m (names_of fs ss n)) refl
  where
    go : (p : Option ℕ) → text_place m (names_of fs ss n) ≡ p → Known m fs ss n
    go (Some k) e = (k, e)
    go None e = let z : ◌≡◌ {A = ℕ} 0 1 = cc (not_text st fs ss ks ls n i m e) in absurd (omega arith)

-- a known name has a text in every store
pub known_text : (m : Name) (st fs ss ks ls : List ℕ) (n : ℕ) → Known m fs ss n → TextsInvariant st fs ss ks ls n → (t : Text) × (text_of m (texts_of st fs ss ks ls n) ≡ Some t)
known_text m st fs ss ks ls n k i = (_, found_text st fs ss ks ls n i m k.0 k.1)

module _ (fs ss : List ℕ) (n : ℕ) (planted : Planted) (y : Layout) (g : Page) (c : Collected) (cells : List ℕ) (k : Stack) (arena ends row : List ℕ) (s : PageInvariant planted (page_state y g c cells k arena ends)) (few : k.depth ≤ 16) (long : length row ≡ 872) where
  -- a text was called
  pub calls_text : (m : Name) (line args given bytes : List ℕ) (count : ℕ) (r : Result Stack Refusal) (arena' ends' : List ℕ) → TextCallRefines m count args given None bytes g.last k arena ends r arena' ends'
      → arguments_of args given count ≡ arguments line → Known m fs ss n
      → PageRefines (λ ts v. goes (called_text (text_of m ts) line v)) fs ss n planted (page_state y g c cells k arena ends) (way_of r) 0 (page_state y g c cells (stack_after k r) arena' ends') row
  calls_text m line args given bytes count r arena' ends' t e h = record {
    is = λ st ks ls i x.
        let ts = texts_of st fs ss ks ls n in let v = state_at ts (planted_of planted) (page_state y g c cells k arena ends) x in let u = known_text m st fs ss ks ls n h i in
        ap goes (t.is ts u.0 u.1 v refl)
        ∙ ap (λ (l : List (List ℕ)). goes (call u.0 l [] v)) e
        ∙ sym (ap (λ (o : Option Text). goes (called_text o line v)) u.1);
    good = λ st ks ls i q. let u = known_text m st fs ss ks ls n h i in t.good (texts_of st fs ss ks ls n) u.0 u.1 q;
    sound = record { limits = s.limits; above = s.above; numbered = s.numbered; few = s.few; line = s.line; indent = s.indent; next = s.next; columns = t.columns };
    fits = fits_few (stack_after k r) ends' t.few;
    few = omega arith;
    long = long;
  }
