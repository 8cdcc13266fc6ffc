-- The state between two pieces of work (document 01, 'A session'). It holds lists and live things only.
use Rattle.std.specs.Prelude.{Bool, false, ◌||◌, List, [], ◌∷◌, ℕ, ◌*◌, pos, Option, None, Some}
use Rattle.rules.specs.declared.Name.{Name}
use Rattle.rules.specs.Names.{same_name}
use Rattle.rules.specs.Printers.{Printer}
use Rattle.rules.specs.Registers.{Seen}
use Rattle.rules.specs.declared.Register.{Register}
use Rattle.rules.specs.Texts.{Text}
use Rattle.rules.specs.Settings.{Layout, start_layout}
use Rattle.rules.specs.Filling.{Word, Collected}
use Rattle.rules.specs.Traps.{Page, no_page}
use Rattle.rules.specs.declared.Trap.{Trap}
use Rattle.rules.specs.declared.Breaking.{Breaking}
use Rattle.stream.specs.Answers.{Closing, refused}

-- A line: text, or a control line with its name and what follows that, from the space on; lines whose name has no or more than two bytes are ignored.
pub data Line : Type 0 where
  plain_text : List ℕ → Line
  control : (period : Bool) → Name → List ℕ → Line
  ignored : Line

-- What lies on the input stack, over the end, if that has begun (`last` of the page).
pub data Item : Type 0 where
  -- a text: its name, its unread lines, the arguments of its call
  reading : Name → List (List ℕ) → List (List ℕ) → Item
  -- a source line as it was taken
  fresh : List ℕ → Item
  -- an expanded line: held at the start of the first page, to be dealt with afresh after its own break, or what followed an if
  again : Line → Item
  -- the other words of a text line in which a trap sprang, and the gap that its ending asks for
  others : List Word → ℕ → Item
  -- a request after its break, with its expanded arguments
  acts : Breaking → List ℕ → Item
  -- a bp that ejects this page
  ejects : (page : ℕ) → Item

-- the source, and the input stack
pub record Input : Type 0 where
  -- the bytes of the source line being taken
  pub gathered : List ℕ
  -- the source lines begun
  pub line : ℕ
  -- the end was read
  pub ended : Bool
  -- the stored lines read for this source line
  pub stored : ℕ
  pub stack : List Item

-- a definition that is open: its name, and the body lines so far, a newline each
pub record Definition : Type 0 where
  pub name : Name
  pub body : List ℕ

-- registers, texts, the open definition, and traps
pub record Tables : Type 0 where
  pub registers : List Register
  pub texts : List Text
  pub opened : Option Definition
  -- in the order in which they were planted
  pub traps : List Trap

-- the whole state
pub record State : Type 0 where
  pub input : Input
  pub tables : Tables
  pub layout : Layout
  pub page : Page
  pub collected : Option Collected
  pub closing : Option Closing

-- the starting state
abbrev pub start : Printer → State
start p = record {
  input = record { gathered = []; line = 0; ended = false; stored = 0; stack = [] };
  tables = record { registers = []; texts = []; opened = None; traps = [] };
  layout = start_layout p;
  page = no_page;
  collected = None;
  closing = None;
}

-- closed with an answer; "whatever is unread or collected" is lost
abbrev pub close : Closing → State → State
close v s = record { input = s.input; tables = s.tables; layout = s.layout; page = s.page; collected = None; closing = Some v }

-- a refusal: "number, source line from 1, for the end the last"; "A refusal drops the collected line"
abbrev pub refuse : ℕ → State → State
refuse n s = close (refused n s.input.line) s

-- what the read-only registers show: "% page (0 before the first), nl rows used, .l .i .p, all but % in units"
abbrev pub seen : Printer → State → Seen
seen p s = record {
  page = pos s.page.number;
  rows = pos (s.page.used * p.pitch.row);
  line_length = pos (s.layout.line.now * p.pitch.cell);
  indent = pos (s.layout.indent.now * p.pitch.cell);
  page_length = pos (s.layout.page * p.pitch.row);
}

-- whether a text of this name lies on the input stack
abbrev pub is_reading : Name → Item → Bool
is_reading n (reading m ls l) = same_name n m
is_reading n (fresh l) = false
is_reading n (again l) = false
is_reading n (others ws g) = false
is_reading n (acts r l) = false
is_reading n (ejects p) = false

-- "a text on the input stack"
unfoldable pub on_stack : Name → List Item → Bool
on_stack n [] = false
on_stack n (i ∷ k) = is_reading n i || on_stack n k
