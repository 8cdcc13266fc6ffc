-- `formatter::stored_text::deal_stored` meets its contract. Assumes nothing.
use native.Mathlib.Omega.{arith}
use mathlib.Core.Path.{refl, ap, ◌∙◌}
use mathlib.Core.Path.{ap₂}
use mathlib.Core.List.{[]}
use mathlib.Core.List.{List}
use Prim.Native.Nat.{ℕ}
use Rattle.scan.specs.Arguments.Around.{arguments_of}
use Rattle.texts.specs.Lines.Lines.{next_line}
use Rattle.settings.specs.Layout.Layouts.{printer_of}
use Rattle.input_stack.specs.Stack.Frames.{top_bytes, top_ends}
use Rattle.state.specs.Statuses.{whole_of}
use Rattle.formatter.specs.StoredLines.WorkLaws.{read_refines, sound_registered}
use borrow.Author.Rules.{rules}
use Rattle.formatter.proofs.stored_text.deal_stored.Goals as goal

pub finish-requires : goal.finish-requires
finish-requires c = let a = c.args in let b = c.requires.0 in let e = c.read-dealt.ensures in (record { sound = sound_registered (whole_of a.status a.cells.now a.arena.now a.ends.now a.store.now a.text_firsts.now a.text_seconds.now a.kinds.now a.lengths.now a.firsts.now a.seconds.now a.values.now a.steps.now) _ _ e.rest b.sound (search rules) (search rules) (search rules) (search rules); items = b.items; short = omega (arith, e.long); long = b.long; printer = b.printer }, e.long, rw c.numbered.ensures e.sound)

pub returns : goal.returns
returns c = let a = c.args in let b = c.requires.0 in read_refines (whole_of a.status a.cells.now a.arena.now a.ends.now a.store.now a.text_firsts.now a.text_seconds.now a.kinds.now a.lengths.now a.firsts.now a.seconds.now a.values.now a.steps.now) _ _ (printer_of a.printer) (arguments_of (top_bytes a.status.stack a.arena.now a.ends.now) (top_ends a.status.stack a.ends.now) a.count) _ (next_line [] a.store.now a.top) _ _ _ (ap₂ (λ (l e : List ℕ). arguments_of l e c.from.result) c.top_bytes-arguments.ensures c.load_ends.ensures ∙ ap (λ (n : ℕ). arguments_of (top_bytes a.status.stack a.arena.now a.ends.now) (top_ends a.status.stack a.ends.now) n) c.from.ensures) refl c.read-dealt.ensures _ _ _ _ (rw c.numbered.ensures at c.finish.ensures) (search rules) (search rules) (search rules) (search rules)
