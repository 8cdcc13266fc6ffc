-- The parts of the state that work on a page changes, as the code holds them, and what it means that a piece of work is done as the rules say. Assumes nothing.
use Rattle.std.specs.Prelude.{◌≡◌, Bool, true, false, List, ℕ, ◌≤◌, ◌<◌, length, take, Option, None, Some, Result, Ok, Err}
use Rattle.std.specs.Bool.{then_some}
use Rattle.measure.specs.declared.Cells.{Cells}
use Rattle.measure.specs.Counts.{across_of, down_of, cells_across}
use Rattle.stream.specs.Machine.{works}
use Rattle.rules.specs.declared.Refusal.{Refusal}
use Rattle.rules.specs.Results.{refusal_number}
use Rattle.rules.specs.declared.Trap.{Trap}
use Rattle.rules.specs.Filling as rule
use Rattle.rules.specs.Texts.{Text}
use Rattle.rules.specs.State.{State}
use Rattle.rules.specs.StateSetters.{input, tables}
use Rattle.rules.specs.Rows.{Next}
use Rattle.rules.specs.Columns.{Names}
use Rattle.texts.specs.Table.Table.{texts_of, TextsInvariant}
use Rattle.traps.specs.declared.table.Planted.{Planted}
use Rattle.traps.specs.Table.Table.{planted_of}
use Rattle.traps.specs.Table.Table as traps
use Rattle.fill.specs.Collected.Filled.{collected_line, CollectedInvariant}
use Rattle.settings.specs.declared.layout.Layout.{Layout}
use Rattle.settings.specs.Layout.Layouts.{layout_of, LayoutInvariant}
use Rattle.input_stack.specs.declared.frames.What.{What}
use Rattle.input_stack.specs.declared.frames.What.TheVariants as what
use Rattle.input_stack.specs.declared.stack.Stack.{Stack}
use Rattle.input_stack.specs.Stack.Frames.{StackInvariant}
use Rattle.input_stack.specs.Stack.Items.{stack_of}
use Rattle.page.specs.declared.position.Page.{Page}
use Rattle.page.specs.Position.Landing.{page_of}
use Rattle.page.specs.declared.springs.Way.{Way}
use Rattle.page.specs.declared.springs.Way.TheVariants.{On, Refused}
use Rattle.page.specs.declared.springs.Landed.{Landed}
use Rattle.page.specs.Springs.Held.{StackFits}
use Rattle.page.specs.Springs.Calls.{close_by, KeepsGood}
use Rattle.composition.specs.declared.page_rows.Collected.{Collected}
use Rattle.composition.specs.declared.page_rows.PageOutcome.{PageOutcome}

-- no line is collected
abbrev pub no_line : Collected
no_line = record { there = false; indent = cells_across 0; room = cells_across 0; length = 0; next = cells_across 1 }

-- nothing is written or moved
abbrev pub page_stayed : Way → Layout → Page → Collected → Stack → PageOutcome
page_stayed w y g c s = record { way = w; layout = y; page = g; collected = c; stack = s; written = 0 }

-- a new layout, or "6: number malformed" and "7: value out of range"
abbrev pub settled_by : Result Layout Refusal → Layout → Page → Collected → Stack → PageOutcome
settled_by (Ok z) y g c s = page_stayed On z g c s
settled_by (Err r) y g c s = page_stayed (Refused (refusal_number r)) y g c s

-- what is written, and where the move down after it leads
abbrev pub outcome_of : Layout → Collected → Landed → (written : ℕ) → PageOutcome
outcome_of y c l n = record { way = l.way; layout = y; page = l.page; collected = c; stack = l.stack; written = n }

-- a bp goes on where blank rows end within its page
abbrev pub left_if : (within : Bool) → (page : ℕ) → Option What
left_if t p = then_some t (what.Ejects p)

-- what work on a page changes: settings, the page, the collected line with its cells, and the stack with its arrays
pub record PageState : Type 0 where
  pub layout : Layout
  pub page : Page
  pub collected : Collected
  pub cells : List ℕ
  pub stack : Stack
  pub arena : List ℕ
  pub ends : List ℕ

-- a page state, field by field
abbrev pub page_state : Layout → Page → Collected → (cells : List ℕ) → Stack → (arena ends : List ℕ) → PageState
page_state y g c cs s bs ps = record { layout = y; page = g; collected = c; cells = cs; stack = s; arena = bs; ends = ps }

-- the collected line, if there is one
abbrev pub collected_if : (there : Bool) → Collected → (cells : List ℕ) → Option rule.Collected
collected_if true c cs = Some (collected_line (across_of c.indent) (across_of c.room) cs c.length (across_of c.next))
collected_if false c cs = None

abbrev pub collected_of : Collected → (cells : List ℕ) → Option rule.Collected
collected_of c cs = collected_if c.there c cs

-- a state with the parts of a page state, these texts and these traps
abbrev pub state_at : List Text → List Trap → PageState → State → State
state_at ts ps d x = record {
  input = input x.input.gathered x.input.line x.input.ended x.input.stored (stack_of ts d.stack d.arena d.ends);
  tables = tables x.tables.registers ts x.tables.opened ps;
  layout = layout_of d.layout;
  page = page_of d.page;
  collected = collected_of d.collected d.cells;
  closing = x.closing;
}

-- a gap behind a line: 1 or 2 cells, or 0 in a record that a caller lends; no negative count
pub record SmallGap (c : Cells) : Type 0 where
  pub plain : c ≡ cells_across (across_of c)
  pub most : across_of c ≤ 2

-- what every page state keeps to: the ranges, a row of the page, and lines within their cells
pub record PageInvariant (planted : Planted) (d : PageState) : Type 0 where
  pub limits : LayoutInvariant (layout_of d.layout)
  pub above : down_of d.page.used < down_of d.layout.page
  pub numbered : d.page.number ≤ 1000000
  pub few : traps.TrapsInvariant planted
  pub line : CollectedInvariant d.cells d.collected.length (across_of d.collected.room)
  pub indent : across_of d.collected.indent ≤ 239
  pub next : SmallGap d.collected.next
  pub columns : StackInvariant d.stack d.arena d.ends

-- a piece of work: the text that is written, and the state after it
abbrev pub page_work : List Text → List Trap → Way → (written : ℕ) → PageState → (row : List ℕ) → State → Next
page_work ts ps w n d row x = works (take n row) (close_by w (state_at ts ps d x))

-- A piece of work is done as a rule says, in every state and over all texts of these names.
pub record PageRefines (rule : List Text → State → Next) (fs ss : List ℕ) (n : ℕ) (planted : Planted) (d : PageState) (w : Way) (written : ℕ) (d' : PageState) (row' : List ℕ) : Type 0 where
  pub is : (st ks ls : List ℕ) → TextsInvariant st fs ss ks ls n → (x : State)
      → page_work (texts_of st fs ss ks ls n) (planted_of planted) w written d' row' x
      ≡ rule (texts_of st fs ss ks ls n) (state_at (texts_of st fs ss ks ls n) (planted_of planted) d x)
  pub good : (st ks ls : List ℕ) → TextsInvariant st fs ss ks ls n → KeepsGood (texts_of st fs ss ks ls n) d.stack d.arena d.ends d'.stack d'.arena d'.ends
  pub sound : PageInvariant planted d'
  pub fits : StackFits d'.stack d'.ends
  pub few : written ≤ 872
  pub long : length row' ≡ 872

-- work may begin: the page state is sound, no more than 16 items lie on the stack, and the bytes to be held are a line
pub record PageReady (planted : Planted) (d : PageState) (bytes row fs ss : List ℕ) (n : ℕ) : Type 0 where
  pub sound : PageInvariant planted d
  pub items : d.stack.depth ≤ 16
  pub short : length bytes ≤ 512
  pub long : length row ≡ 872
  pub names : Names fs ss n
