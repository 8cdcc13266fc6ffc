-- How a line is dealt with (document 01, 'Lines and escapes'; 'Rows, pages, traps' for breaks and the first page).
use Rattle.std.specs.Prelude.{Bool, true, false, ◌&&◌, List, [], ℕ, zero, suc, eqb, Option, None, Some}
use Rattle.rules.specs.Printers.{Printer}
use Rattle.rules.specs.declared.Name.{Name}
use Rattle.rules.specs.Texts.{Text, text_of, keep_line, close_macro}
use Rattle.rules.specs.declared.Mode.{Mode}
use Rattle.rules.specs.declared.Mode.TheVariants.{Plain, Copy}
use Rattle.rules.specs.Escapes.{Scanned, scanned, scan_refused, scan}
use Rattle.rules.specs.Arguments.{arguments}
use Rattle.rules.specs.Filling.{Collected}
use Rattle.rules.specs.declared.Breaking.{Breaking}
use Rattle.rules.specs.declared.Request.{Request}
use Rattle.rules.specs.Requests.{request_of, traits, starts_page, mode_of}
use Rattle.rules.specs.declared.Request.TheVariants.{Breaks, Lays, Changes, Ds, If}
use Rattle.rules.specs.State.{State, Line, plain_text, control, ignored, Item, again, acts, Definition, seen}
use Rattle.rules.specs.StateSetters.{with_registers, with_texts, with_opened}
use Rattle.rules.specs.Rows.{Next, goes, refuses, call, break, start_page, held_if}
use Rattle.rules.specs.TextLines.{text_line}
use Rattle.rules.specs.Lines.{line_of, is_closing}
use Rattle.rules.specs.Acts.{on_value, settles, act, lay, change, defines, decide}

-- What a control line's name stands for: "User names hide requests"
pub data Meaning : Type 0 where
  calls : Text → Meaning
  means_request : Request → Meaning
  nothing : Meaning

-- a request, or nothing
abbrev pub request_meaning : Option Request → Meaning
request_meaning None = nothing
request_meaning (Some r) = means_request r

-- a user text, or else what the name is among requests
abbrev pub text_meaning : Option Text → Name → Meaning
text_meaning (Some t) n = calls t
text_meaning None n = request_meaning (request_of n)

-- what a name stands for now
abbrev pub meaning_of : Name → State → Meaning
meaning_of n s = text_meaning (text_of n s.tables.texts) n

-- "If that break springs a trap, the request acts after its macro is read"
abbrev pub held_after : Breaking → List ℕ → List Item
held_after r l = held_if (traits r).acts (acts r l)

-- "that line, as expanded, is dealt with after the top macro"
abbrev pub held_first : Breaking → Line → List Item
held_first r x = held_if (traits r).again (again x)

-- the control byte and the name, which count in the expanded line
abbrev pub name_length : (second : ℕ) → ℕ
name_length zero = 1
name_length (suc b) = 2

-- the bytes of control byte and name
abbrev pub prefix_of : Name → ℕ
prefix_of n = suc (name_length n.second)

-- on with an expanded line, or its refusal, with the registers as the escapes before left them
abbrev pub on_scan : Scanned → State → (List ℕ → State → Next) → Next
on_scan (scanned l rs) s k = k l (with_registers rs s)
on_scan (scan_refused n rs) s k = refuses n (with_registers rs s)

module _ (p : Printer) where
  -- Where a period calls it and a line is collected, a breaking request breaks, and what it does after that is held; else it acts at once.
  abbrev pub break_or_act : (period : Bool) → Option Collected → Breaking → List ℕ → State → Next
  break_or_act true (Some c) r l s = break c (held_after r l) s
  break_or_act true None r l s = act p r l s
  break_or_act false c r l s = act p r l s

  -- "The first page starts at the first .. break, sp or bp"
  abbrev pub start_or_break : (starts period : Bool) → Breaking → Name → List ℕ → State → Next
  start_or_break true q r n l s = goes (start_page (held_first r (control q n l)) s)
  start_or_break false q r n l s = break_or_act q s.collected r l s

  -- a control line that is expanded behind its name
  abbrev pub obey : Meaning → (afterIf period : Bool) → Name → List ℕ → State → Next
  obey nothing i q n l s = goes s
  obey (calls t) i q n l s = goes (call t (arguments l) [] s)
  obey (means_request (Breaks r)) i q n l s = start_or_break (eqb s.page.number 0 && starts_page q r) q r n l s
  obey (means_request (Lays r)) i q n l s = lay p r l s
  obey (means_request (Changes r)) i q n l s = settles (change p r l s) s
  obey (means_request Ds) i q n l s = settles (defines i l s) s
  obey (means_request If) i q n l s = settles (decide p l s) s

  -- an expanded line
  unfoldable pub deal_again : Line → State → Next
  deal_again ignored s = goes s
  deal_again (plain_text l) s = text_line l s
  deal_again (control q n l) s = obey (meaning_of n s) true q n l s

  -- the expansion of a line in this state
  abbrev pub expand : (args : List (List ℕ)) → Mode → (prefix : ℕ) → List ℕ → State → Scanned
  expand args m k l s = scan (record { seen = seen p s; texts = s.tables.texts; arguments = args }) m s.tables.registers k l

  -- "lines with names of no or more than two bytes, or unknown ones, are ignored unexpanded"
  abbrev pub control_line : Meaning → (args : List (List ℕ)) → (period : Bool) → Name → List ℕ → State → Next
  control_line nothing args q n l s = goes s
  control_line (calls t) args q n l s = on_scan (expand args Plain (prefix_of n) l s) s (obey (calls t) false q n)
  control_line (means_request r) args q n l s = on_scan (expand args (mode_of r) (prefix_of n) l s) s (obey (means_request r) false q n)

  -- a line before its expansion
  abbrev pub fresh_line : Line → (args : List (List ℕ)) → State → Next
  fresh_line ignored args s = goes s
  fresh_line (plain_text l) args s = on_scan (expand args Plain 0 l s) s text_line
  fresh_line (control q n l) args s = control_line (meaning_of n s) args q n l s

  -- a body line, as expanded, goes behind those before it, or "11: .. live text past 8,192 bytes"
  abbrev pub keep_body : Definition → List ℕ → State → Next
  keep_body d l s = on_value (keep_line s.tables.texts d.body l) s (λ body. goes (with_opened (Some (record { name = d.name; body = body })) s))

  -- "A definition closes at a line that is exactly two periods"; any other line is kept: "Body lines of de .. are in copy mode"
  abbrev pub body_line : (closing : Bool) → Definition → (args : List (List ℕ)) → List ℕ → State → Next
  body_line true d args l s = goes (with_opened None (with_texts (close_macro d.name d.body s.tables.texts) s))
  body_line false d args l s = on_scan (expand args Copy 0 l s) s (keep_body d)

  -- a body line of an open definition, or a line
  abbrev pub deal_from : Option Definition → (args : List (List ℕ)) → List ℕ → State → Next
  deal_from (Some d) args l s = body_line (is_closing l) d args l s
  deal_from None args l s = fresh_line (line_of l) args s

  -- a line as it was taken from the source or from a text, with the arguments of that text's call
  unfoldable pub deal : (args : List (List ℕ)) → List ℕ → State → Next
  deal args l s = deal_from s.tables.opened args l s
