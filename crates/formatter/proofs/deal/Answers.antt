-- `formatter::deal` meets its contract. Assumes nothing.
use native.Mathlib.Omega.{arith}
use mathlib.Core.List.{[]}
use lib.Seq.{take-length}
use Rattle.settings.specs.Layout.Layouts.{printer_of}
use Rattle.state.specs.Statuses.{whole_of}
use Rattle.formatter.specs.StoredLines.WorkLaws.{read_refines, sound_registered}
use Rattle.formatter.proofs.stored_lines.Reading.{no_arguments_of}
use borrow.Author.Rules.{rules}
use Rattle.formatter.proofs.deal.Goals as goal

pub finish-requires : goal.finish-requires
finish-requires c = let a = c.args in let b = c.requires in let e = c.read-dealt.ensures in (record { sound = sound_registered (whole_of a.status a.cells.now a.arena.now a.ends.now a.store.now a.text_firsts.now a.text_seconds.now a.kinds.now a.lengths.now a.firsts.now a.seconds.now a.values.now a.steps.now) _ _ e.rest b.sound (search rules) (search rules) (search rules) (search rules); items = b.items; short = omega (arith, e.long); long = b.long; printer = b.printer }, e.long, rw c.numbered.ensures e.sound)

pub returns : goal.returns
returns c = let a = c.args in let b = c.requires in read_refines (whole_of a.status a.cells.now a.arena.now a.ends.now a.store.now a.text_firsts.now a.text_seconds.now a.kinds.now a.lengths.now a.firsts.now a.seconds.now a.values.now a.steps.now) _ _ (printer_of a.printer) [] _ a.line.now _ _ _ (no_arguments_of _ []) (take-length a.line.now) c.read-dealt.ensures _ _ _ _ (rw c.numbered.ensures at c.finish.ensures) (search rules) (search rules) (search rules) (search rules)
