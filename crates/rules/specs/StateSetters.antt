-- Parts of the state field by field, and each part set anew. Nothing of document 01 is said here. Assumes nothing.
use Rattle.std.specs.Prelude.{Bool, List, ℕ, Option}
use Rattle.rules.specs.declared.Register.{Register}
use Rattle.rules.specs.declared.Trap.{Trap}
use Rattle.rules.specs.Texts.{Text}
use Rattle.rules.specs.Settings.{Layout}
use Rattle.rules.specs.Filling.{Collected}
use Rattle.rules.specs.Traps.{Page}
use Rattle.rules.specs.State.{Item, Input, Definition, Tables, State}

-- the state with another input
abbrev pub with_input : Input → State → State
with_input v s = record { input = v; tables = s.tables; layout = s.layout; page = s.page; collected = s.collected; closing = s.closing }

-- the state with other tables
abbrev pub with_tables : Tables → State → State
with_tables v s = record { input = s.input; tables = v; layout = s.layout; page = s.page; collected = s.collected; closing = s.closing }

-- the state with another layout
abbrev pub with_layout : Layout → State → State
with_layout v s = record { input = s.input; tables = s.tables; layout = v; page = s.page; collected = s.collected; closing = s.closing }

-- the state with another page
abbrev pub with_page : Page → State → State
with_page v s = record { input = s.input; tables = s.tables; layout = s.layout; page = v; collected = s.collected; closing = s.closing }

-- the state with another collected line
abbrev pub with_collected : Option Collected → State → State
with_collected v s = record { input = s.input; tables = s.tables; layout = s.layout; page = s.page; collected = v; closing = s.closing }

-- an input, field by field
abbrev pub input : List ℕ → ℕ → Bool → ℕ → List Item → Input
input g l e r k = record { gathered = g; line = l; ended = e; stored = r; stack = k }

-- the state with another input stack
abbrev pub with_stack : List Item → State → State
with_stack v s = let i = s.input in with_input (input i.gathered i.line i.ended i.stored v) s

-- the state with another count of stored lines
abbrev pub with_stored : ℕ → State → State
with_stored v s = let i = s.input in with_input (input i.gathered i.line i.ended v i.stack) s

-- tables, field by field
abbrev pub tables : List Register → List Text → Option Definition → List Trap → Tables
tables r t o p = record { registers = r; texts = t; opened = o; traps = p }

-- the state with other registers
abbrev pub with_registers : List Register → State → State
with_registers v s = let t = s.tables in with_tables (tables v t.texts t.opened t.traps) s

-- the state with other texts
abbrev pub with_texts : List Text → State → State
with_texts v s = let t = s.tables in with_tables (tables t.registers v t.opened t.traps) s

-- the state with another open definition
abbrev pub with_opened : Option Definition → State → State
with_opened v s = let t = s.tables in with_tables (tables t.registers t.texts v t.traps) s

-- the state with other traps
abbrev pub with_traps : List Trap → State → State
with_traps v s = let t = s.tables in with_tables (tables t.registers t.texts t.opened v) s
