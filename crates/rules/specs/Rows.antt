-- Pieces of work that write rows: the move down, the trap that springs, breaks, sp, bp and the end (document 01, 'Rows, pages, traps').
use Rattle.std.specs.Prelude.{Bool, true, false, List, [], ◌∷◌, ◌++◌, ℕ, zero, suc, ◌+◌, ◌-◌, leb, ltb, eqb, length, ℤ, pos, negsuc, Option, None, Some}
use Rattle.rules.specs.declared.Name.{Name}
use Rattle.rules.specs.Bytes.{newline}
use Rattle.rules.specs.Texts.{Text, text_of}
use Rattle.rules.specs.declared.Kind.{Kind}
use Rattle.rules.specs.declared.Kind.TheVariants.{Macro, String}
use Rattle.stream.specs.Machine.{Step, works}
use Rattle.rules.specs.Settings.{Down}
use Rattle.rules.specs.Filling.{Collected, broken_row}
use Rattle.rules.specs.Traps.{seen_at, nearest_trap, blank_rows}
use Rattle.rules.specs.State.{State, Item, reading, ejects, refuse, close}
use Rattle.rules.specs.StateSetters.{with_stack, with_page, with_collected}
use Rattle.stream.specs.Answers.{done}

-- what a piece of work leads to
abbrev pub Next : Type 0
Next = Step State

-- nothing is written
abbrev pub goes : State → Next
goes s = works [] s

-- a refusal, with nothing written
abbrev pub refuses : ℕ → State → Next
refuses n s = goes (refuse n s)

-- "String bytes and macro lines with a newline each": the lines of a macro; "A string called as a macro is one line"
abbrev pub line_byte : (isNewline : Bool) → ℕ → List (List ℕ) → List (List ℕ)
line_byte true b ls = [] ∷ ls
line_byte false b [] = (b ∷ []) ∷ []
line_byte false b (l ∷ ls) = (b ∷ l) ∷ ls

-- the lines of a macro's bytes
unfoldable pub lines : List ℕ → List (List ℕ)
lines [] = []
lines (b ∷ bs) = line_byte (eqb b newline) b (lines bs)

-- the lines of a text
abbrev pub lines_of : Kind → List ℕ → List (List ℕ)
lines_of Macro bs = lines bs
lines_of String bs = bs ∷ []

-- "10: input stack past 16 items (texts; lines, requests or the end with work left after a trap)"
abbrev pub the_end : (last : Bool) → ℕ
the_end true = 1
the_end false = 0

-- the stack, or refusal 10
abbrev pub push_if : Bool → List Item → State → State
push_if true k s = with_stack k s
push_if false k s = refuse 10 s

-- what is held while a trap's macro is read, if work is left
abbrev pub held_if : (left : Bool) → Item → List Item
held_if true i = i ∷ []
held_if false i = []

-- A text goes onto the stack; what is held for after it goes on first.
abbrev pub call : Text → (arguments : List (List ℕ)) → (held : List Item) → State → State
call t args held s = let k = reading t.name (lines_of t.kind t.bytes) args ∷ (held ++ s.input.stack) in
    push_if (leb (length k + the_end s.page.last) 16) k s

-- "a name with no user text springs nothing"
abbrev pub user_text : Option Name → List Text → Option Text
user_text None ts = None
user_text (Some n) ts = text_of n ts

-- the text of a trap, if there is one, over what is held
abbrev pub spring_text : Option Text → List Item → State → State
spring_text None held s = with_stack (held ++ s.input.stack) s
spring_text (Some t) held s = call t [] held s

-- the trap at a row springs, if there is one, and what is held goes on after its macro
unfoldable pub spring : (row : Down) → (held : List Item) → State → State
spring r held s = spring_text (user_text (seen_at s.layout.page r s.tables.traps) s.tables.texts) held s

-- the next page starts and springs row 0; the page past 1,000,000 earns 12
abbrev pub start_if : Bool → List Item → State → State
start_if true held s = spring 0 held (with_page (record { number = suc s.page.number; used = 0; last = s.page.last }) s)
start_if false held s = refuse 12 s

-- "or at the start of the page past it"
abbrev pub start_page : (held : List Item) → State → State
start_page held s = start_if (ltb s.page.number 1000000) held s

-- "The end .. stops, done, at the first page end reached .. with no new page"
abbrev pub end_page : (last : Bool) → List Item → State → State
end_page true held s = close done s
end_page false held s = start_page held s

-- the state with other rows used
abbrev pub with_used : Down → State → State
with_used r s = with_page (record { number = s.page.number; used = r; last = s.page.last }) s

-- a row within the page, or the page end
abbrev pub reach : (within : Bool) → Down → List Item → State → State
reach true r held s = spring r held (with_used r s)
reach false r held s = end_page s.page.last held s

-- "A written row moves down by one and springs the trap it reaches"; "At the page end the next page starts at once"
unfoldable pub down : (rows : Down) → (held : List Item) → State → State
down n held s = reach (ltb (s.page.used + n) s.layout.page) (s.page.used + n) held s

-- the collected line is written, and what is held goes on after the trap that this springs
unfoldable pub break : Collected → (held : List Item) → State → Next
break c held s = works (broken_row s.layout c) (down 1 held (with_collected None s))

-- the rows from here to the nearest trap or the page end
abbrev pub rows_below : State → Down
rows_below s = nearest_trap s.layout.page s.page.used s.layout.page s.tables.traps - s.page.used

-- the lesser of two
abbrev pub fewer : Bool → Down → Down → Down
fewer true n m = n
fewer false n m = m

-- blank rows, and the move down
abbrev pub blank : Down → List Item → State → Next
blank n held s = works (blank_rows n) (down n held s)

-- "sp stops at the nearest trap or page end and drops the rest; 0 or less moves nothing"
unfoldable pub skip : ℤ → State → Next
skip (pos zero) s = goes s
skip (pos (suc n)) s = blank (fewer (ltb n (rows_below s)) (suc n) (rows_below s)) [] s
skip (negsuc n) s = goes s

-- "blank rows to the next trap, its macro, and on until the page has changed"
abbrev pub eject_if : (same : Bool) → ℕ → State → Next
eject_if true p s = blank (rows_below s) (held_if (ltb (s.page.used + rows_below s) s.layout.page) (ejects p)) s
eject_if false p s = goes s

-- a bp: the page that it leaves has not changed yet
unfoldable pub eject : (page : ℕ) → State → Next
eject p s = eject_if (eqb p s.page.number) p s

-- the end has begun: this page is the last one
abbrev pub last_page : State → State
last_page s = with_page (record { number = s.page.number; used = s.page.used; last = true }) s

-- the end's ejection, up to the next trap or the page end
unfoldable pub eject_last : State → Next
eject_last s = blank (rows_below s) [] s

-- "The end breaks, then ejects"; "at row 0 with nothing collected it writes nothing, and where no page has started it starts none"
abbrev pub end_from : Option Collected → (used : Down) → State → Next
end_from (Some c) r s = break c [] s
end_from None zero s = goes (close done s)
end_from None (suc r) s = eject_last s

-- the end begins
unfoldable pub begin_end : State → Next
begin_end s = end_from s.collected s.page.used (last_page s)
