-- Laws of an expanded line, and of what a line of an open definition makes of the whole state. Assumes nothing.
use Rattle.std.specs.Prelude.{◌≡◌, refl, Bool, true, false, List, ℕ, ◌≤◌, length, take, ℤ, Some, Result, Ok, Err}
use Rattle.std.proofs.Common.{length-take, arith}
use Rattle.rules.specs.Printers as printers
use Rattle.rules.specs.declared.Name.{Name}
use Rattle.rules.specs.declared.Refusal.{Refusal}
use Rattle.rules.specs.Texts.{Text}
use Rattle.settings.specs.declared.layout.Printer.{Printer}
use Rattle.texts.specs.Table.Changes.{KeptTo, ClosedTo}
use Rattle.line_syntax.specs.declared.lines.Meaning.{Meaning}
use Rattle.line_syntax.specs.Lines.Meanings.{MeaningIs}
use Rattle.state.specs.declared.Status.{Status}
use Rattle.state.specs.Whole.{WholeState, StateRefines}
use Rattle.state.specs.Statuses.{whole_of, StateReady}
use Rattle.line_expansion.specs.declared.Dealt.TheVariants as dealt
use Rattle.line_expansion.specs.Dealing.{keeps_in, closes_in, DealtInvariant}
use Rattle.line_expansion.specs.BodyLaws.{keep_refines, close_refines}
use Rattle.line_execution.specs.ExpandedLines.Steps.{closed_to, kept_to}

-- the front of a line is no longer than a line
pub front_short : (l : List ℕ) (n : ℕ) → n ≤ 512 → length (take n l) ≤ 512
front_short l n h = simp length-take (omega arith)

-- a body line is kept, or closes, where a definition is open; other lines are dealt with where none is
pub closes_open : (b : Bool) (ts : List Text) → DealtInvariant b ts (Ok dealt.Closes) → b ≡ true
closes_open true ts h = refl
closes_open false ts h = absurd h

pub keeps_open : (b : Bool) (ts : List Text) (n : ℕ) → DealtInvariant b ts (Ok (dealt.Keeps n)) → (b ≡ true) × (n ≤ 512)
keeps_open true ts n h = (refl, h)
keeps_open false ts n h = absurd h

pub words_short : (b : Bool) (ts : List Text) (n : ℕ) → DealtInvariant b ts (Ok (dealt.Words n)) → n ≤ 512
words_short true ts n h = absurd h
words_short false ts n h = h

pub control_closed : (b : Bool) (ts : List Text) (q : Bool) (k : Name) (m : Meaning) (n : ℕ) → DealtInvariant b ts (Ok (dealt.Control q k m n)) → (b ≡ false) × (n ≤ 512) × MeaningIs ts k (Some m)
control_closed true ts q k m n h = absurd h
control_closed false ts q k m n h = (refl, h.0, h.1)

module _ (s : Status) (cs bs ps st tf ts ks ls fs ss : List ℕ) (vs us : List ℤ) (bytes row : List ℕ) (p : Printer) where
  abbrev q : WholeState
  q = whole_of s cs bs ps st tf ts ks ls fs ss vs us

  module _ (b : StateReady q bytes row p) where
    pub kept_refines : (m : printers.Printer) (line st' : List ℕ) → s.opening.there ≡ true → (r : Result ℕ Refusal) → KeptTo st ls s.texts s.opening.length line r st'
        → StateRefines (λ v. keeps_in m v.tables.opened line v) q (kept_to r s).way (kept_to r s).written (whole_of (kept_to r s).status cs bs ps st' tf ts ks ls fs ss vs us) row
    kept_refines m line st' o (Ok n) a = keep_refines m q line st' row b.sound b.items b.long o (Ok n) a
    kept_refines m line st' o (Err e) a = keep_refines m q line st' row b.sound b.items b.long o (Err e) a

    pub closed_refines : (m : printers.Printer) (n : ℕ) (tf' ts' ks' ls' : List ℕ) → s.opening.there ≡ true
        → ClosedTo st tf ts ks ls s.texts s.opening.length s.opening.name n tf' ts' ks' ls'
        → StateRefines (λ v. closes_in m v.tables.opened v) q (closed_to n s).way (closed_to n s).written (whole_of (closed_to n s).status cs bs ps st tf' ts' ks' ls' fs ss vs us) row
    closed_refines m n tf' ts' ks' ls' o c = close_refines m q tf' ts' ks' ls' row n b.sound b.items b.long o c
