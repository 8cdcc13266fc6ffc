-- What the call of a text by its name leads to. Assumes nothing.
use Rattle.std.specs.Prelude.{◌≡◌, List, [], ℕ, Option, None, Some, Result}
use Rattle.rules.specs.declared.Name.{Name}
use Rattle.rules.specs.declared.Refusal.{Refusal}
use Rattle.rules.specs.Texts.{Text}
use Rattle.rules.specs.Arguments.{arguments}
use Rattle.rules.specs.State.{State}
use Rattle.rules.specs.Rows.{call}
use Rattle.texts.specs.Table.Places.{text_place}
use Rattle.texts.specs.Table.Table.{names_of}
use Rattle.settings.specs.declared.layout.Layout.{Layout}
use Rattle.input_stack.specs.declared.stack.Stack.{Stack}
use Rattle.page.specs.declared.position.Page.{Page}
use Rattle.page.specs.Springs.Calls.{way_of, stack_after}
use Rattle.composition.specs.declared.page_rows.Collected.{Collected}
use Rattle.composition.specs.declared.page_rows.PageOutcome.{PageOutcome}
use Rattle.composition.specs.PageRows.PageState.{page_stayed}

-- a text that is called goes on the stack, or "10: input stack past 16 items"
abbrev pub called_outcome : Result Stack Refusal → Layout → Page → Collected → Stack → PageOutcome
called_outcome r y g c s = page_stayed (way_of r) y g c (stack_after s r)

-- a text is called with the arguments of a line
abbrev pub called_text : Option Text → List ℕ → State → State
called_text None l s = s
called_text (Some t) l s = call t (arguments l) [] s

-- a text has this name
abbrev pub Known : Name → (fs ss : List ℕ) → (n : ℕ) → Type 0
Known m fs ss n = (i : ℕ) × (text_place m (names_of fs ss n) ≡ Some i)
