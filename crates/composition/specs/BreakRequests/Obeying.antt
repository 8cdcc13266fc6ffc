-- What is held where a breaking request starts the first page or breaks. Assumes nothing.
use Rattle.std.specs.Prelude.{◌≡◌, refl, Bool, true, false, ◌&&◌, List, ℕ, eqb, Option}
use Rattle.std.specs.Bool.{then_some}
use Rattle.rules.specs.Printers.{Printer}
use Rattle.rules.specs.declared.Name.{Name}
use Rattle.rules.specs.declared.Breaking.{Breaking}
use Rattle.rules.specs.declared.Request.TheVariants.{Breaks}
use Rattle.rules.specs.Requests.{traits, starts_page}
use Rattle.rules.specs.Texts.{Text}
use Rattle.rules.specs.State.{State, control, again, acts}
use Rattle.rules.specs.Rows.{Next, held_if}
use Rattle.rules.specs.ControlLines.{means_request, held_after, held_first, start_or_break, obey}
use Rattle.input_stack.specs.declared.frames.What.{What}
use Rattle.input_stack.specs.declared.frames.What.TheVariants as what
use Rattle.page.specs.Springs.Held.{held_of, Plain}

-- an item, if work is left
abbrev pub item_if : (left : Bool) → What → Option What
item_if t w = then_some t w

-- "that line, as expanded, is dealt with after the top macro"
abbrev pub held_line : (period : Bool) → Breaking → Name → Option What
held_line q r n = item_if (traits r).again (what.Control q n)

-- "If that break springs a trap, the request acts after its macro is read"
abbrev pub held_request : Breaking → Option What
held_request r = item_if (traits r).acts (what.Acts r)

-- the first page starts at this request
abbrev pub starts_first : (page : ℕ) → (period : Bool) → Breaking → Bool
starts_first p q r = eqb p 0 && starts_page q r

-- a breaking request as the rules obey it, once its line is expanded
abbrev pub obeyed : Printer → (period : Bool) → Breaking → Name → List ℕ → State → Next
obeyed p q r n l s = start_or_break p (starts_first s.page.number q r) q r n l s

-- Sanity: that is the rules' one, after an if or not.
pub obey_is : (p : Printer) (afterIf q : Bool) (r : Breaking) (n : Name) (l : List ℕ) (s : State) → obeyed p q r n l s ≡ obey p (means_request (Breaks r)) afterIf q n l s
obey_is p i q r n l s = refl

line_by_lem : (ts : List Text) (t q : Bool) (n : Name) (l : List ℕ) → held_of ts (item_if t (what.Control q n)) l ≡ held_if t (again (control q n l))
line_by_lem ts true q n l = refl
line_by_lem ts false q n l = refl

request_by_lem : (ts : List Text) (t : Bool) (r : Breaking) (l : List ℕ) → held_of ts (item_if t (what.Acts r)) l ≡ held_if t (acts r l)
request_by_lem ts true r l = refl
request_by_lem ts false r l = refl

-- What is held is what the rules hold.
pub line_held : (ts : List Text) (q : Bool) (r : Breaking) (n : Name) (l : List ℕ) → held_of ts (held_line q r n) l ≡ held_first r (control q n l)
line_held ts q r n l = line_by_lem ts (traits r).again q n l

pub request_held : (ts : List Text) (r : Breaking) (l : List ℕ) → held_of ts (held_request r) l ≡ held_after r l
request_held ts r l = request_by_lem ts (traits r).acts r l

-- No text is held.
line_plain_by : (t q : Bool) (n : Name) → Plain (item_if t (what.Control q n))
line_plain_by true q n = tt
line_plain_by false q n = tt

pub line_plain : (q : Bool) (r : Breaking) (n : Name) → Plain (held_line q r n)
line_plain q r n = line_plain_by (traits r).again q n

request_plain_by : (t : Bool) (r : Breaking) → Plain (item_if t (what.Acts r))
request_plain_by true r = tt
request_plain_by false r = tt

pub request_plain : (r : Breaking) → Plain (held_request r)
request_plain r = request_plain_by (traits r).acts r
