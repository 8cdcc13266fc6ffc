-- What a piece of work is, by the item on top of the input stack. Assumes nothing.
use Rattle.std.specs.Prelude.{◌≡◌, Bool, true, false, List, [], ◌∷◌, ℕ, ◌≤◌, ◌<◌, length, take, drop, Option, None, Some}
use Rattle.stream.specs.Machine.{works}
use Rattle.rules.specs.declared.Name.{Name}
use Rattle.rules.specs.declared.Kind.{Kind}
use Rattle.rules.specs.declared.Kind.TheVariants.{String}
use Rattle.rules.specs.Printers as printers
use Rattle.rules.specs.Texts.{Text}
use Rattle.rules.specs.Filling.{words}
use Rattle.rules.specs.State.{State}
use Rattle.rules.specs.StateSetters.{with_stored}
use Rattle.rules.specs.Rows.{Next, goes, eject}
use Rattle.rules.specs.TextLines.{text_line, fill}
use Rattle.rules.specs.Acts.{act}
use Rattle.rules.specs.ControlLines.{meaning_of, obey}
use Rattle.rules.specs.Session.{step}
use Rattle.texts.specs.declared.table.Spot.{Spot}
use Rattle.texts.specs.declared.lines.Top.{Top}
use Rattle.texts.specs.Table.Places.{text_found}
use Rattle.texts.specs.Lines.Lines.{next_line, TopInside}
use Rattle.settings.specs.declared.layout.Printer.{Printer}
use Rattle.settings.specs.Layout.Layouts.{PrinterInvariant}
use Rattle.input_stack.specs.declared.frames.What.{What}
use Rattle.input_stack.specs.declared.frames.What.TheVariants as what
use Rattle.input_stack.specs.Stack.Frames.{top_entry}
use Rattle.input_stack.specs.Stack.Items.{unread_by, unread}
use Rattle.page.specs.declared.springs.Way.{Way}
use Rattle.page.specs.declared.springs.Way.TheVariants.{On, Refused}
use Rattle.page.specs.Springs.Held.{is_text, PlainItem, StackFits}
use Rattle.page.specs.Springs.Calls.{close_by}
use Rattle.state.specs.declared.Status.{Status}
use Rattle.state.specs.declared.WorkOutcome.{WorkOutcome}
use Rattle.state.specs.Whole.{WholeState, state_in, StateInvariant, KeptStore}
use Rattle.state.specs.Steps.{stayed}
use Rattle.formatter.specs.declared.stored_lines.Performed.{Performed}

abbrev pub performed_of : WorkOutcome → (stored : ℕ) → Performed
performed_of p n = record { way = p.way; written = p.written; status = p.status; stored = n }

-- the next line of a text of this kind and these bytes from a place on, and the place behind it; or nothing is left
abbrev pub UnreadLineIs : Option (Top × ℕ) → (store : List ℕ) → Kind → (bytes : List ℕ) → (place : ℕ) → Type 0
UnreadLineIs (Some p) st k l place = (unread_by k l place ≡ next_line [] st p.0 ∷ unread_by k l p.1) × TopInside [] st p.0
UnreadLineIs None st k l place = unread_by k l place ≡ []

-- the same of a text that is there or not
abbrev pub UnreadIs : Option (Top × ℕ) → (store : List ℕ) → Option Text → (place : ℕ) → Type 0
UnreadIs (Some p) st o place = (unread o place ≡ next_line [] st p.0 ∷ unread o p.1) × TopInside [] st p.0
UnreadIs None st o place = unread o place ≡ []

-- "A string called as a macro is one line": where it lies in any store
abbrev pub StringIs : Option (Top × ℕ) → (at size place : ℕ) → Type 0
StringIs r at size place = (st : List ℕ) → length st ≡ 8192 → UnreadLineIs r st String (take size (drop at st)) place

-- the next line of a text that was looked up, whatever its name is
abbrev pub FoundIs : Option (Top × ℕ) → (store : List ℕ) → Option Spot → (place : ℕ) → Type 0
FoundIs r st f place = (n : Name) → UnreadIs r st (text_found st n f) place

-- "8: a macro definition not ended when its input ends"
abbrev pub left_by : (opened : Bool) → Way
left_by true = Refused 8
left_by false = On

abbrev pub leaves : Status → WorkOutcome
leaves s = stayed (left_by s.opening.there) s

-- an item that is no text, as the rules deal with it
abbrev pub resumed : printers.Printer → What → List ℕ → State → Next
resumed p (what.Reading n k c) l s = goes s
resumed p what.Text l s = text_line l s
resumed p (what.Control q n) l s = obey p (meaning_of n s) true q n l s
resumed p what.Ignored l s = goes s
resumed p (what.Others g) l s = fill (words l) g s
resumed p (what.Acts r) l s = act p r l s
resumed p (what.Ejects n) l s = eject n s

-- an item that is no text, with its bytes in front of a line; no definition is open then
pub record ItemReady (w : What) (line : List ℕ) (size : ℕ) (opened : Bool) : Type 0 where
  pub plain : PlainItem w
  pub long : length line ≡ 512
  pub few : size ≤ 512
  pub closed : opened ≡ false

-- where a definition is open, a text is on top or the stack is empty
abbrev pub Quiet : WholeState → Type 0
Quiet q = q.opening.there ≡ true → 0 < q.page_state.stack.depth → is_text (top_entry q.page_state.stack q.page_state.ends).what ≡ true

-- a piece of work may be done
pub record StepReady (q : WholeState) (stored : ℕ) (row : List ℕ) (p : Printer) : Type 0 where
  pub sound : StateInvariant q
  pub fits : StackFits q.page_state.stack q.page_state.ends
  pub quiet : Quiet q
  pub counted : stored ≤ 10000
  pub long : length row ≡ 872
  pub printer : PrinterInvariant p

-- it is a text
pub record TextReady (q : WholeState) (stored : ℕ) (row : List ℕ) (p : Printer) (name : Name) (place count : ℕ) : Type 0 where
  pub ready : StepReady q stored row p
  pub deep : 0 < q.page_state.stack.depth
  pub top : (top_entry q.page_state.stack q.page_state.ends).what ≡ what.Reading name place count

-- it is no text
pub record TakenReady (q : WholeState) (stored : ℕ) (row : List ℕ) (p : Printer) (w : What) : Type 0 where
  pub ready : StepReady q stored row p
  pub deep : 0 < q.page_state.stack.depth
  pub top : (top_entry q.page_state.stack q.page_state.ends).what ≡ w
  pub other : is_text w ≡ false

-- One piece of work is done as the rules say, in every open session with these parts.
pub record StepRefines (p : printers.Printer) (q : WholeState) (stored : ℕ) (w : Way) (written : ℕ) (q' : WholeState) (stored' : ℕ) (row' : List ℕ) : Type 0 where
  pub is : (x : State) → x.closing ≡ None → x.input.stored ≡ stored → (q.page_state.stack.depth ≡ 0 → x.input.ended ≡ true)
      → works (take written row') (close_by w (state_in q' (with_stored stored' x))) ≡ step p (state_in q x)
  pub sound : StateInvariant q'
  pub fits : StackFits q'.page_state.stack q'.page_state.ends
  pub few : written ≤ 872
  pub long : length row' ≡ 872
  pub kept : KeptStore w q.texts.store q'.texts.store
  pub counted : stored' ≤ 10000
