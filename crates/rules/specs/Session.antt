-- One piece of work (document 01, 'A session'): "deal with the top of the input stack; else take one byte; else, if marked last, read the end".
use Rattle.std.specs.Prelude.{Bool, true, false, ◌&&◌, List, [], ◌∷◌, ◌++◌, ℕ, suc, leb, ltb, eqb, length, Option, None, Some}
use Rattle.rules.specs.Printers.{Printer}
use Rattle.rules.specs.Bytes.{newline}
use Rattle.stream.specs.Machine.{asks, closed}
use Rattle.rules.specs.State.{State, Item, reading, fresh, again, others, acts, ejects, Input, Definition, refuse}
use Rattle.rules.specs.StateSetters.{with_input, with_stack, with_stored}
use Rattle.stream.specs.Answers.{Closing}
use Rattle.rules.specs.Rows.{Next, goes, refuses, eject, begin_end, eject_last}
use Rattle.rules.specs.TextLines.{fill}
use Rattle.rules.specs.Acts.{act}
use Rattle.rules.specs.ControlLines.{deal, deal_again}

-- "A finished text leaves the stack when the next line is asked for"; "8: a macro definition not ended when its input ends"
abbrev pub leave : Option Definition → State → Next
leave None s = goes s
leave (Some d) s = refuses 8 s

-- The count of stored lines starts again with a source line, which begins with its first byte.
abbrev pub begun_by : (gathered : List ℕ) → Input → Input
begun_by [] i = record { gathered = []; line = suc i.line; ended = i.ended; stored = 0; stack = i.stack }
begun_by (b ∷ l) i = i

-- the state with the line of the next byte begun
abbrev pub with_begun : State → State
with_begun s = with_input (begun_by s.input.gathered s.input) s

-- the state with other gathered bytes and another stack
abbrev pub gather : List ℕ → List Item → State → State
gather l k s = let i = s.input in with_input (record { gathered = l; line = i.line; ended = i.ended; stored = i.stored; stack = k }) s

-- "12: past 1,000,000 source lines"; "3: a source line .. passes 512 bytes"; "2: a source byte other than 10 and 32 to 126"
abbrev pub take_by : (past newline long good : Bool) → ℕ → State → State
take_by true n l g b s = refuse 12 s
take_by false true l g b s = gather [] (fresh s.input.gathered ∷ []) s
take_by false false true g b s = refuse 3 s
take_by false false false true b s = gather (s.input.gathered ++ b ∷ []) [] s
take_by false false false false b s = refuse 2 s

-- "take one byte", of a line that is begun
abbrev pub take_one : ℕ → State → State
take_one b s = take_by (ltb 1000000 s.input.line) (eqb b newline) (leb 512 (length s.input.gathered)) (leb 32 b && leb b 126) b s

-- "take one byte"
unfoldable pub take_byte : ℕ → State → State
take_byte b s = take_one b (with_begun s)

-- "Bytes after the last newline are a line, dealt with in full before the end is"
abbrev pub last_line : (gathered : List ℕ) → List Item
last_line [] = []
last_line (b ∷ l) = fresh (b ∷ l) ∷ []

-- "read the end": "The end is read once, with the line it closes"
unfoldable pub read_end : State → State
read_end s = let i = s.input in
    with_input (record { gathered = []; line = i.line; ended = true; stored = i.stored; stack = last_line i.gathered }) s

-- the end begins, or goes on after a trap
abbrev pub work_end : (last : Bool) → State → Next
work_end false s = begin_end s
work_end true s = eject_last s

module _ (p : Printer) where
  -- "10: .. past 10,000 stored lines read for one source line"
  abbrev pub read_line : (allowed : Bool) → (args : List (List ℕ)) → List ℕ → State → Next
  read_line true args l s = deal p args l (with_stored (suc s.input.stored) s)
  read_line false args l s = refuses 10 s

  -- the item that was on top
  abbrev pub work : Item → State → Next
  work (reading n [] args) s = leave s.tables.opened s
  work (reading n (l ∷ ls) args) s = read_line (ltb s.input.stored 10000) args l (with_stack (reading n ls args ∷ s.input.stack) s)
  work (fresh l) s = deal p [] l s
  work (again x) s = deal_again p x s
  work (others ws g) s = fill ws g s
  work (acts r l) s = act p r l s
  work (ejects n) s = eject n s

  -- nothing lies on the stack
  abbrev pub idle : (ended : Bool) → Option Definition → State → Next
  idle false d s = asks (λ b. take_byte b s) (read_end s)
  idle true (Some d) s = refuses 8 s
  idle true None s = work_end s.page.last s

  -- "deal with the top of the input stack; else take one byte; else, if marked last, read the end"; "After done or refused (repeated)"
  abbrev pub step_from : Option Closing → List Item → State → Next
  step_from (Some a) k s = closed a
  step_from None [] s = idle s.input.ended s.tables.opened s
  step_from None (i ∷ k) s = work i (with_stack k s)

  -- one piece of work, or what the formatter asks for
  unfoldable pub step : State → Next
  step s = step_from s.closing s.input.stack s
