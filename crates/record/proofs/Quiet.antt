-- Where a definition is open in a session that is not closed, lines come next: a text is on top of the stack, or nothing is. Assumes nothing.
use Rattle.std.specs.Prelude.{Option, None}
use mathlib.Core.Path.{◌≡◌, refl, subst}
use mathlib.Core.Bool.{Bool, true}
use mathlib.Core.List.{List, ◌∷◌}
use Prim.Native.Nat.{ℕ}
use Rattle.stream.specs.Answers.{Closing}
use Rattle.rules.specs.Texts.{Text}
use Rattle.rules.specs.State.{State, Item}
use Rattle.limits.specs.Within.{NextLine, OpenOver, Within}
use Rattle.input_stack.specs.declared.frames.What.{What}
use Rattle.input_stack.specs.declared.frames.What.TheVariants as what
use Rattle.input_stack.specs.Stack.Frames.{top_entry, top_bytes, top_ends, popped}
use Rattle.input_stack.specs.Stack.Items.{item_by, stack_of}
use Rattle.input_stack.specs.Stack.ItemLaws.{top_item}
use Rattle.page.specs.Springs.Held.{is_text}
use Rattle.state.specs.declared.Opening.{Opening}
use Rattle.state.specs.Whole.{WholeState, Texts, texts_in, opened_if, state_in}
use Rattle.formatter.specs.StoredLines.Works.{Quiet}

next_text : (ts : List Text) (w : What) (l es : List ℕ) (k : List Item) → NextLine (item_by ts w l es ∷ k) → is_text w ≡ true
next_text ts (what.Reading n i c) l es k h = refl
next_text ts what.Text l es k h = absurd h
next_text ts (what.Control q n) l es k h = absurd h
next_text ts what.Ignored l es k h = absurd h
next_text ts (what.Others g) l es k h = absurd h
next_text ts (what.Acts r) l es k h = absurd h
next_text ts (what.Ejects n) l es k h = absurd h

open_next : (b : Bool) (o : Opening) (t : Texts) (c : Option Closing) (k : List Item) → b ≡ true → c ≡ None → OpenOver (opened_if b o t) c k → NextLine k
open_next b o t c k e f h = subst (λ (v : Bool). OpenOver (opened_if v o t) None k) e (subst (λ (v : Option Closing). OpenOver (opened_if b o t) v k) f h)

pub quiet_in : (q : WholeState) (x : State) → Within (state_in q x) → x.closing ≡ None → Quiet q
quiet_in q x h c e d =
    let ts = texts_in q.texts in
    let s = q.page_state.stack in
    next_text ts (top_entry s q.page_state.ends).what (top_bytes s q.page_state.arena q.page_state.ends) (top_ends s q.page_state.ends) (stack_of ts (popped s) q.page_state.arena q.page_state.ends)
    (subst NextLine (top_item ts s q.page_state.arena q.page_state.ends (top_entry s q.page_state.ends).what d refl)
    (open_next q.opening.there q.opening q.texts x.closing (stack_of ts s q.page_state.arena q.page_state.ends) e c h.opened))
