-- How much work a state has left, and the limits that each piece of work keeps: why every document comes to its closing answer. Nothing here need be
-- believed: a load is only the fuel of `pages`, each step lowers it (Laws.Falls, `falls`), so it is never used up (Laws.Pages, `always_ends`), and any
-- greater fuel gives the same pages. Only `formatter`, the last definition, says which step the machine has: `step`. Assumes nothing.
use Rattle.std.specs.Prelude.{Bool, true, false, List, [], ◌∷◌, ℕ, zero, suc, ◌+◌, ◌-◌, ◌*◌, ◌<◌, ◌≤◌, length, Option, None, Some}
use Rattle.rules.specs.Filling.{Collected}
use Rattle.rules.specs.State.{State, plain_text, control, ignored, Item, reading, fresh, again, others, acts, ejects}
use Rattle.stream.specs.Answers.{Closing}
use Rattle.stream.specs.Machine.{Machine}
use Rattle.rules.specs.Printers.{Printer}
use Rattle.rules.specs.Session.{step}

-- The limits: fewer rows are used than the page has, and it has at most 500.
abbrev pub Good : State → Type 0
Good s = (s.page.used < s.layout.page) × (s.layout.page ≤ 500)

-- How much work is left, in units of which a text on the stack has 1 and a row left on the page 2. A row that ends a page adds at most 1,001:
-- the 500 rows of the next one and a trap's text. Each load below is above what its piece of work can leave.

-- a line of n words or bytes: each word may be the one that does not fit
abbrev pub line_load : ℕ → ℕ
line_load n = 2000 * n + 1101

-- a line before its expansion: that of 512 bytes
abbrev pub fresh_load : ℕ
fresh_load = 1025101

abbrev pub item_load : Item → ℕ
item_load (reading n ls args) = 1
item_load (fresh l) = fresh_load
item_load (again (plain_text l)) = line_load (length l)
item_load (again (control q n l)) = line_load (length l)
item_load (again ignored) = 1
item_load (others ws g) = line_load (length ws)
item_load (acts r l) = 1003
item_load (ejects n) = 1002

abbrev pub stack_load : List Item → ℕ
stack_load [] = 0
stack_load (i ∷ k) = item_load i + stack_load k

-- a collected line, the first page and the end are still to come
abbrev pub collected_load : Option Collected → ℕ
collected_load None = 0
collected_load (Some c) = 1100

abbrev pub first_load : (page : ℕ) → ℕ
first_load zero = 1100
first_load (suc n) = 0

abbrev pub end_load : (ended : Bool) → ℕ
end_load false = 1025102
end_load true = 0

-- all but the stack: 10,000 stored lines for a source line, two for each row that is left on the page
abbrev pub base_load : State → ℕ
base_load s =
    (10000 - s.input.stored) * fresh_load + 2 * (s.layout.page - s.page.used) + collected_load s.collected
    + first_load s.page.number + end_load s.input.ended

abbrev pub weigh : Option Closing → ℕ → ℕ
weigh None n = suc n
weigh (Some a) n = 0

unfoldable pub load : State → ℕ
load s = weigh s.closing (base_load s + stack_load s.input.stack)

-- more than a byte can add
abbrev pub byte_load : ℕ
byte_load = 10260000000

-- The rules of document 01 as a machine.
abbrev pub formatter : Printer → Machine State
formatter p = record { step = step p; load = load; per_byte = byte_load }
