-- A line as it was taken: what it is, and its expansion, before anything but registers has changed. Assumes nothing.
use Rattle.std.specs.Prelude.{◌≡◌, Bool, true, false, List, [], ℕ, ◌≤◌, length, take, Option, None, Some, Result, Ok, Err}
use Rattle.rules.specs.declared.Register.{Register}
use Rattle.rules.specs.declared.Refusal.{Refusal}
use Rattle.rules.specs.Results.{refusal_number}
use Rattle.rules.specs.declared.Mode.{Mode}
use Rattle.rules.specs.Bytes.{is_there}
use Rattle.rules.specs.Printers.{Printer}
use Rattle.rules.specs.Settings.{Layout}
use Rattle.rules.specs.Traps.{Page}
use Rattle.rules.specs.Texts.{Text}
use Rattle.rules.specs.State.{State, Definition}
use Rattle.rules.specs.StateSetters.{tables}
use Rattle.rules.specs.Rows.{Next, goes, refuses}
use Rattle.rules.specs.TextLines.{text_line}
use Rattle.rules.specs.ControlLines.{meaning_of, obey, keep_body, body_line, deal}
use Rattle.registers.specs.declared.columns.RegisterValues.{RegisterValues}
use Rattle.registers.specs.Table.Lent.{registers_with, OnlyValues}
use Rattle.rules.specs.declared.Mode.TheVariants.{Plain}
use Rattle.rules.specs.Requests.{mode_of}
use Rattle.line_syntax.specs.declared.lines.Meaning.{Meaning}
use Rattle.line_syntax.specs.declared.lines.Meaning.TheVariants as meaning
use Rattle.line_syntax.specs.Lines.Meanings.{MeaningIs}
use Rattle.line_expansion.specs.declared.Dealt.{Dealt}
use Rattle.line_expansion.specs.declared.Dealt.TheVariants.{Closes, Keeps, Words, Control, Nothing}

-- a state with these settings, page, texts, registers and open definition
abbrev pub scene : Layout → Page → List Text → List Register → Option Definition → State → State
scene y g ts rs o x = record {
  input = x.input;
  tables = tables rs ts o x.tables.traps;
  layout = y;
  page = g;
  collected = x.collected;
  closing = x.closing;
}

-- a body line is kept, where a definition is open
abbrev pub keeps_in : Printer → Option Definition → List ℕ → State → Next
keeps_in p None l s = goes s
keeps_in p (Some d) l s = keep_body p d l s

-- a definition is closed, where one is open
abbrev pub closes_in : Printer → Option Definition → State → Next
closes_in p None s = goes s
closes_in p (Some d) s = body_line p true d [] [] s

-- how what follows a name is expanded, by what the name means
abbrev pub expansion_of : Meaning → Mode
expansion_of (meaning.Calls k) = Plain
expansion_of (meaning.Requests i) = mode_of i

-- a refusal by its number
abbrev pub numbered : Result Dealt Refusal → Result Dealt ℕ
numbered (Ok d) = Ok d
numbered (Err e) = Err (refusal_number e)

-- what is left to do with the expanded line, or the number of its refusal
abbrev pub dealt_of : Printer → Result Dealt ℕ → (out : List ℕ) → State → Next
dealt_of p (Ok Closes) out s = closes_in p s.tables.opened s
dealt_of p (Ok (Keeps n)) out s = keeps_in p s.tables.opened (take n out) s
dealt_of p (Ok (Words n)) out s = text_line (take n out) s
dealt_of p (Ok (Control q k m n)) out s = obey p (meaning_of k s) false q k (take n out) s
dealt_of p (Ok Nothing) out s = goes s
dealt_of p (Err n) out s = refuses n s

-- an expanded line within its buffer, and what its name means; where a definition is open, a line is kept or closes it, and nowhere else
abbrev pub DealtInvariant : (opened : Bool) → List Text → Result Dealt ℕ → Type 0
DealtInvariant true ts (Ok Closes) = Unit
DealtInvariant true ts (Ok (Keeps n)) = n ≤ 512
DealtInvariant true ts (Ok (Words n)) = ⊥
DealtInvariant true ts (Ok (Control q k m n)) = ⊥
DealtInvariant true ts (Ok Nothing) = Unit
DealtInvariant true ts (Err e) = Unit
DealtInvariant false ts (Ok Closes) = ⊥
DealtInvariant false ts (Ok (Keeps n)) = ⊥
DealtInvariant false ts (Ok (Words n)) = n ≤ 512
DealtInvariant false ts (Ok (Control q k m n)) = (n ≤ 512) × MeaningIs ts k (Some m)
DealtInvariant false ts (Ok Nothing) = Unit
DealtInvariant false ts (Err e) = Unit

-- The line is dealt with as the rules say, once what is left is done.
pub record DealRefines (r : Result Dealt Refusal) (p : Printer) (y : Layout) (g : Page) (ts : List Text) (opened : Bool) (args : List (List ℕ)) (line : List ℕ) (rg rg' : RegisterValues) (out' : List ℕ) : Type 0 where
  pub is : (o : Option Definition) → is_there o ≡ opened → (x : State)
      → dealt_of p (numbered r) out' (scene y g ts (registers_with rg') o x) ≡ deal p args line (scene y g ts (registers_with rg) o x)
  pub rest : OnlyValues rg rg'
  pub long : length out' ≡ 512
  pub sound : DealtInvariant opened ts (numbered r)
