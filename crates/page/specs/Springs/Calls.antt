-- Texts that are called and traps that spring, as the rules say, on a stack that is seen over the texts. Assumes nothing.
use Rattle.std.specs.Prelude.{◌≡◌, Bool, List, ℕ, ◌≤◌, ◌<◌, Option, Some, Result, Ok, Err}
use Rattle.measure.specs.Counts.{down_of}
use Rattle.measure.specs.declared.Rows.{Rows}
use Rattle.stream.specs.Answers.{done}
use Rattle.rules.specs.declared.Name.{Name}
use Rattle.rules.specs.declared.Refusal.{Refusal}
use Rattle.rules.specs.Results.{refusal_number}
use Rattle.rules.specs.declared.Trap.{Trap}
use Rattle.rules.specs.Texts.{Text, text_of}
use Rattle.rules.specs.Traps as traps
use Rattle.rules.specs.LayoutSetters.{with_page_length}
use Rattle.rules.specs.State.{State, Item, close, refuse}
use Rattle.rules.specs.StateSetters.{input, tables, with_stack}
use Rattle.rules.specs.Rows.{call, user_text, spring_text}
use Rattle.texts.specs.Table.Table.{texts_of, TextsInvariant}
use Rattle.scan.specs.Arguments.Around.{arguments_of}
use Rattle.traps.specs.declared.table.Planted.{Planted}
use Rattle.traps.specs.Table.Table.{planted_of}
use Rattle.input_stack.specs.declared.stack.Stack.{Stack}
use Rattle.input_stack.specs.Stack.Frames.{frames_of, StackInvariant}
use Rattle.input_stack.specs.Stack.Items.{stack_of, GoodFrames}
use Rattle.page.specs.declared.position.Page.{Page}
use Rattle.page.specs.Position.Landing.{Landing, page_of}
use Rattle.page.specs.Position.Landing as landing
use Rattle.page.specs.Position.LandingLaws.{landed}
use Rattle.input_stack.specs.declared.frames.What.{What}
use Rattle.page.specs.declared.springs.Landed.{Landed}
use Rattle.page.specs.declared.springs.Way.{Way}
use Rattle.page.specs.declared.springs.Way.TheVariants.{On, Done, Refused}
use Rattle.page.specs.Springs.Held.{held_of, StackFits}

-- a state that goes on, or is closed
abbrev pub close_by : Way → State → State
close_by On s = s
close_by Done s = close done s
close_by (Refused n) s = refuse n s

-- a call that is refused closes the session
abbrev pub way_of : Result Stack Refusal → Way
way_of (Ok r) = On
way_of (Err e) = Refused (refusal_number e)

-- the stack after a call; one that is refused leaves it as it was
abbrev pub stack_after : Stack → Result Stack Refusal → Stack
stack_after s (Ok r) = r
stack_after s (Err e) = s

-- the stack stays one over every list of texts that has those on it
abbrev pub KeepsGood : List Text → Stack → (arena ends : List ℕ) → Stack → (arena' ends' : List ℕ) → Type 0
KeepsGood ts s bs ps s' bs' ps' = GoodFrames ts (frames_of s bs ps) → GoodFrames ts (frames_of s' bs' ps')

-- a text is called as the rules say
pub record TextCallRefines (n : Name) (count : ℕ) (args given : List ℕ) (h : Option What) (bytes : List ℕ) (last : Bool) (s : Stack) (arena ends : List ℕ) (r : Result Stack Refusal) (arena' ends' : List ℕ) : Type 0 where
  pub is : (ts : List Text) (t : Text) → text_of n ts ≡ Some t → (x : State) → x.page.last ≡ last
      → close_by (way_of r) (with_stack (stack_of ts (stack_after s r) arena' ends') x)
      ≡ call t (arguments_of args given count) (held_of ts h bytes) (with_stack (stack_of ts s arena ends) x)
  pub good : (ts : List Text) (t : Text) → text_of n ts ≡ Some t → KeepsGood ts s arena ends (stack_after s r) arena' ends'
  pub columns : StackInvariant (stack_after s r) arena' ends'
  pub few : (stack_after s r).depth ≤ 16

-- a trap springs as the rules say, over any texts of these names
pub record TrapRefines (found : Option Name) (last : Bool) (h : Option What) (bytes : List ℕ) (s : Stack) (arena ends fs ss : List ℕ) (n : ℕ) (r : Result Stack Refusal) (arena' ends' : List ℕ) : Type 0 where
  pub is : (st ks ls : List ℕ) → TextsInvariant st fs ss ks ls n → (x : State) → x.page.last ≡ last
      → close_by (way_of r) (with_stack (stack_of (texts_of st fs ss ks ls n) (stack_after s r) arena' ends') x)
      ≡ spring_text (user_text found (texts_of st fs ss ks ls n)) (held_of (texts_of st fs ss ks ls n) h bytes) (with_stack (stack_of (texts_of st fs ss ks ls n) s arena ends) x)
  pub good : (st ks ls : List ℕ) → TextsInvariant st fs ss ks ls n → KeepsGood (texts_of st fs ss ks ls n) s arena ends (stack_after s r) arena' ends'
  pub columns : StackInvariant (stack_after s r) arena' ends'
  pub fits : StackFits (stack_after s r) ends'

-- a state with these texts, traps, page and stack, and pages of so many rows
abbrev pub state_on : List Text → List Trap → (rows : ℕ) → traps.Page → List Item → State → State
state_on ts ps pl g k x = record {
  input = input x.input.gathered x.input.line x.input.ended x.input.stored k;
  tables = tables x.tables.registers ts x.tables.opened ps;
  layout = with_page_length pl x.layout;
  page = g;
  collected = x.collected;
  closing = x.closing;
}

-- the answer of a call, on a page
abbrev pub landed_from : Result Stack Refusal → Page → Stack → Landed
landed_from c p s = record { way = way_of c; page = p; stack = stack_after s c }

-- a landing on a row of a page of so many
abbrev pub LandsWithin : (rows : ℕ) → Landing → Type 0
LandsWithin pl (landing.on p f) = p.used < pl
LandsWithin pl landing.pastLast = Unit
LandsWithin pl (landing.refused n) = Unit

-- "past 1,000,000 .. pages": no page has a number past it
abbrev pub LandsNumbered : Landing → Type 0
LandsNumbered (landing.on p f) = p.number ≤ 1000000
LandsNumbered landing.pastLast = Unit
LandsNumbered (landing.refused n) = Unit

-- a move down leads where the landing says
pub record LandingRefines (l : Landing) (page : Page) (h : Option What) (bytes : List ℕ) (s : Stack) (arena ends fs ss : List ℕ) (n : ℕ) (r : Landed) (arena' ends' : List ℕ) : Type 0 where
  pub is : (st ks ls : List ℕ) → TextsInvariant st fs ss ks ls n → (ps : List Trap) (pl : ℕ) (x : State)
      → close_by r.way (state_on (texts_of st fs ss ks ls n) ps pl (page_of r.page) (stack_of (texts_of st fs ss ks ls n) r.stack arena' ends') x)
      ≡ landed l (held_of (texts_of st fs ss ks ls n) h bytes) (state_on (texts_of st fs ss ks ls n) ps pl (page_of page) (stack_of (texts_of st fs ss ks ls n) s arena ends) x)
  pub good : (st ks ls : List ℕ) → TextsInvariant st fs ss ks ls n → KeepsGood (texts_of st fs ss ks ls n) s arena ends r.stack arena' ends'
  pub columns : StackInvariant r.stack arena' ends'
  pub fits : StackFits r.stack ends'
  pub within : (pl : ℕ) → down_of page.used < pl → LandsWithin pl l → down_of r.page.used < pl
  pub numbered : page.number ≤ 1000000 → LandsNumbered l → r.page.number ≤ 1000000

-- a move is made as the rules say, from a row of a page to one
pub record MoveRefines (move : List Item → State → State) (page : Page) (length : Rows) (planted : Planted) (h : Option What) (bytes : List ℕ) (s : Stack) (arena ends fs ss : List ℕ) (n : ℕ) (r : Landed) (arena' ends' : List ℕ) : Type 0 where
  pub is : (st ks ls : List ℕ) → TextsInvariant st fs ss ks ls n → (x : State)
      → close_by r.way (state_on (texts_of st fs ss ks ls n) (planted_of planted) (down_of length) (page_of r.page) (stack_of (texts_of st fs ss ks ls n) r.stack arena' ends') x)
      ≡ move (held_of (texts_of st fs ss ks ls n) h bytes) (state_on (texts_of st fs ss ks ls n) (planted_of planted) (down_of length) (page_of page) (stack_of (texts_of st fs ss ks ls n) s arena ends) x)
  pub good : (st ks ls : List ℕ) → TextsInvariant st fs ss ks ls n → KeepsGood (texts_of st fs ss ks ls n) s arena ends r.stack arena' ends'
  pub columns : StackInvariant r.stack arena' ends'
  pub fits : StackFits r.stack ends'
  pub within : down_of r.page.used < down_of length
  pub numbered : page.number ≤ 1000000 → r.page.number ≤ 1000000
