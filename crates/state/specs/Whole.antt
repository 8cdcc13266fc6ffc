-- The whole state as the code holds it, and what it means that a piece of work on it is done as the rules say. Assumes nothing.
use Rattle.std.specs.Prelude.{◌≡◌, refl, Bool, true, false, List, ℕ, ◌*◌, ◌≤◌, length, take, ℤ, pos, Option, None, Some}
use Rattle.stream.specs.Machine.{works}
use Rattle.rules.specs.declared.Register.{Register}
use Rattle.rules.specs.Texts.{Text}
use Rattle.rules.specs.Printers as printers
use Rattle.rules.specs.Settings as settings
use Rattle.rules.specs.Traps as traps
use Rattle.rules.specs.Registers.{Seen}
use Rattle.rules.specs.Escapes.{Surroundings}
use Rattle.rules.specs.State.{State, Definition, seen}
use Rattle.rules.specs.StateSetters.{input, tables}
use Rattle.rules.specs.Rows.{Next}
use Rattle.registers.specs.Table.Columns.{table_of, RegistersInvariant}
use Rattle.texts.specs.Table.Table.{texts_of, TextsInvariant}
use Rattle.texts.specs.Table.Changes.{body_of, Opens}
use Rattle.traps.specs.declared.table.Planted.{Planted}
use Rattle.traps.specs.Table.Table.{planted_of}
use Rattle.input_stack.specs.Stack.Frames.{frames_of}
use Rattle.input_stack.specs.Stack.Items.{stack_of, GoodFrames}
use Rattle.settings.specs.Layout.Layouts.{layout_of, LayoutInvariant}
use Rattle.page.specs.Position.Landing.{page_of}
use Rattle.page.specs.declared.springs.Way.{Way}
use Rattle.page.specs.declared.springs.Way.TheVariants.{On, Done, Refused}
use Rattle.page.specs.Springs.Held.{StackFits}
use Rattle.page.specs.Springs.Calls.{close_by}
use Rattle.composition.specs.PageRows.PageState.{PageState, collected_of, PageInvariant}
use Rattle.state.specs.declared.Opening.{Opening}

-- the columns of the texts and their store
pub record Texts : Type 0 where
  pub store : List ℕ
  pub firsts : List ℕ
  pub seconds : List ℕ
  pub kinds : List ℕ
  pub lengths : List ℕ
  pub count : ℕ

-- the columns of the registers
pub record Registers : Type 0 where
  pub firsts : List ℕ
  pub seconds : List ℕ
  pub values : List ℤ
  pub steps : List ℤ
  pub count : ℕ

-- all that work on an item of the stack changes
pub record WholeState : Type 0 where
  pub page_state : PageState
  pub planted : Planted
  pub texts : Texts
  pub opening : Opening
  pub registers : Registers

-- columns, field by field
abbrev pub text_columns : (store firsts seconds kinds lengths : List ℕ) → ℕ → Texts
text_columns st fs ss ks ls n = record { store = st; firsts = fs; seconds = ss; kinds = ks; lengths = ls; count = n }

abbrev pub register_columns : (firsts seconds : List ℕ) → (values steps : List ℤ) → ℕ → Registers
register_columns fs ss vs ts n = record { firsts = fs; seconds = ss; values = vs; steps = ts; count = n }

abbrev pub whole_state : PageState → Planted → Texts → Opening → Registers → WholeState
whole_state d p t o r = record { page_state = d; planted = p; texts = t; opening = o; registers = r }

-- the texts, the open definition and the registers that they stand for
abbrev pub texts_in : Texts → List Text
texts_in t = texts_of t.store t.firsts t.seconds t.kinds t.lengths t.count

abbrev pub opened_if : (there : Bool) → Opening → Texts → Option Definition
opened_if true o t = Some (record { name = o.name; body = body_of t.store t.lengths t.count o.length })
opened_if false o t = None

abbrev pub registers_in : Registers → List Register
registers_in r = table_of r.firsts r.seconds r.values r.steps r.count

-- a state with these parts; the source and the closing are another's
abbrev pub state_in : WholeState → State → State
state_in q x = record {
  input = input x.input.gathered x.input.line x.input.ended x.input.stored (stack_of (texts_in q.texts) q.page_state.stack q.page_state.arena q.page_state.ends);
  tables = tables (registers_in q.registers) (texts_in q.texts) (opened_if q.opening.there q.opening q.texts) (planted_of q.planted);
  layout = layout_of q.page_state.layout;
  page = page_of q.page_state.page;
  collected = collected_of q.page_state.collected q.page_state.cells;
  closing = x.closing;
}

-- an open definition lies behind the texts
abbrev pub OpensIn : (there : Bool) → Opening → Texts → Type 0
OpensIn true o t = Opens t.store t.lengths t.count o.length
OpensIn false o t = Unit

-- what the whole state keeps to
pub record StateInvariant (q : WholeState) : Type 0 where
  pub page_state : PageInvariant q.planted q.page_state
  pub lies : TextsInvariant q.texts.store q.texts.firsts q.texts.seconds q.texts.kinds q.texts.lengths q.texts.count
  pub store : length q.texts.store ≡ 8192
  pub good : GoodFrames (texts_in q.texts) (frames_of q.page_state.stack q.page_state.arena q.page_state.ends)
  pub opens : OpensIn q.opening.there q.opening q.texts
  pub table : RegistersInvariant q.registers.firsts q.registers.seconds q.registers.values q.registers.steps q.registers.count

-- "The refused event changes no byte of the store."
abbrev pub KeptStore : Way → (store store' : List ℕ) → Type 0
KeptStore On st st' = Unit
KeptStore Done st st' = st' ≡ st
KeptStore (Refused n) st st' = st' ≡ st

-- A piece of work is done as a rule says, in every state with these parts.
pub record StateRefines (rule : State → Next) (q : WholeState) (w : Way) (written : ℕ) (q' : WholeState) (row' : List ℕ) : Type 0 where
  pub is : (x : State) → works (take written row') (close_by w (state_in q' x)) ≡ rule (state_in q x)
  pub sound : StateInvariant q'
  pub fits : StackFits q'.page_state.stack q'.page_state.ends
  pub few : written ≤ 872
  pub long : length row' ≡ 872
  pub kept : KeptStore w q.texts.store q'.texts.store

-- what the read-only registers show with these settings on this page
abbrev pub shown_at : printers.Printer → settings.Layout → traps.Page → Seen
shown_at p y g = record {
  page = pos g.number;
  rows = pos (g.used * p.pitch.row);
  line_length = pos (y.line.now * p.pitch.cell);
  indent = pos (y.indent.now * p.pitch.cell);
  page_length = pos (y.page * p.pitch.row);
}

-- That is what they show in a state.
pub seen_in : (p : printers.Printer) (s : State) → shown_at p s.layout s.page ≡ seen p s
seen_in p s = refl

-- what a line is expanded with, in a state with these parts
abbrev pub surroundings : printers.Printer → settings.Layout → traps.Page → List Text → (arguments : List (List ℕ)) → Surroundings
surroundings p y g ts args = record { seen = shown_at p y g; texts = ts; arguments = args }

-- the settings and the page are within their ranges
pub record ShownRanges (y : settings.Layout) (g : traps.Page) : Type 0 where
  pub limits : LayoutInvariant y
  pub used : g.used ≤ 500
  pub number : g.number ≤ 1000000
