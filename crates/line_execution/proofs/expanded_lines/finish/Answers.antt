-- `line_execution::expanded_lines::finish` meets its contract. Assumes nothing.
use mathlib.Core.Path.{refl, sym, ap, subst, ◌∙◌}
use mathlib.Core.List.{List}
use Prim.Native.Nat.{ℕ}
use Rattle.rules.specs.TextLines.{text_line}
use Rattle.settings.specs.Layout.Layouts.{printer_of}
use Rattle.fill.specs.Words.Parts.{bytes_between}
use Rattle.fill.proofs.words.Parts.{part_zero}
use Rattle.state.specs.Whole.{WholeState, texts_in, state_in}
use Rattle.state.specs.WholeLaws.{page_refines, refines_as}
use Rattle.std.specs.Prelude.{Result, Ok}
use Rattle.line_expansion.specs.declared.Dealt.{Dealt}
use Rattle.line_expansion.specs.declared.Dealt.TheVariants as dealt
use Rattle.line_expansion.specs.Dealing.{keeps_in, dealt_of, DealtInvariant}
use Rattle.state.specs.Statuses.{whole_of}
use borrow.Author.Rules.{rules}
use Rattle.line_execution.specs.ExpandedLines.StepLaws.{closes_open, keeps_open, closed_refines, kept_refines}
use Rattle.line_execution.proofs.expanded_lines.finish.Goals as goal
use Rattle.line_execution.proofs.expanded_lines.finish.Goals.{Start}

-- the state at the call
abbrev q : Start → WholeState
q y = whole_of y.args.status y.args.cells.now y.args.arena.now y.args.ends.now y.args.store.now y.args.text_firsts.now y.args.text_seconds.now y.args.kinds.now y.args.lengths.now y.args.firsts.now y.args.seconds.now y.args.values.now y.args.steps.now

-- what is known of each line
abbrev Known : Start → Result Dealt ℕ → Type 0
Known y d = DealtInvariant y.args.status.opening.there (texts_in (q y).texts) d

pub returns-in-Closes : goal.returns-in-Closes
returns-in-Closes c = let a = c.args in rw (c.in-Ok.is, c.in-Closes.is, c.close.ensures.0) (closed_refines a.status a.cells.now a.arena.now a.ends.now a.store.now a.text_firsts.now a.text_seconds.now a.kinds.now a.lengths.now a.firsts.now a.seconds.now a.values.now a.steps.now a.out.now a.row.now a.printer c.requires.0 (printer_of a.printer) _ _ _ _ _ (closes_open a.status.opening.there (texts_in (q (goal.at.returns-in-Closes c).Start).texts) (subst (Known (goal.at.returns-in-Closes c).Start) (c.in-Ok.is ∙ ap Ok c.in-Closes.is) c.requires.2)) c.close.ensures.1)

pub returns-in-Keeps : goal.returns-in-Keeps
returns-in-Keeps c = let a = c.args in let k = c.keep.ensures in rw (c.in-Ok.is, c.in-Keeps.is, k.is) (refines_as _ (dealt_of (printer_of a.printer) (Ok (dealt.Keeps c.in-Keeps.n)) a.out.now) (q (goal.at.returns-in-Keeps c).Start) _ _ _ _ (λ x. ap (λ (l : List ℕ). keeps_in (printer_of a.printer) (state_in (q (goal.at.returns-in-Keeps c).Start) x).tables.opened l (state_in (q (goal.at.returns-in-Keeps c).Start) x)) (search rules)) (kept_refines a.status a.cells.now a.arena.now a.ends.now a.store.now a.text_firsts.now a.text_seconds.now a.kinds.now a.lengths.now a.firsts.now a.seconds.now a.values.now a.steps.now a.out.now a.row.now a.printer c.requires.0 (printer_of a.printer) _ _ (keeps_open a.status.opening.there (texts_in (q (goal.at.returns-in-Keeps c).Start).texts) _ (subst (Known (goal.at.returns-in-Keeps c).Start) (c.in-Ok.is ∙ ap Ok c.in-Keeps.is) c.requires.2)).0 _ k.kept))

pub returns-in-Words : goal.returns-in-Words
returns-in-Words c = let a = c.args in rw (c.in-Ok.is, c.in-Words.is, c.moved.ensures) (refines_as _ (dealt_of (printer_of a.printer) (Ok (dealt.Words c.in-Words.n)) a.out.now) (q (goal.at.returns-in-Words c).Start) _ _ _ _ (λ x. sym (ap (λ (l : List ℕ). text_line l (state_in (q (goal.at.returns-in-Words c).Start) x)) (sym (part_zero a.out.now c.in-Words.n)))) (page_refines (λ ts s. text_line (bytes_between a.out.now 0 c.in-Words.n) s) (q (goal.at.returns-in-Words c).Start) _ _ _ _ c.requires.0.sound c.text_line-outcome.ensures))
