use mathlib.Core.Path.{◌≡◌}
use lib.ListN.{drop}
use Rattle.registers.specs.Table.Columns.{names_of}
use Rattle.registers.specs.Table.Places.{register_place}
use Rattle.registers.proofs.table.Laws.{further}
use Rattle.registers.proofs.table.find.Given as goal

abbrev pub invariant-loop-i : goal.invariant-loop-i
invariant-loop-i l = register_place l.name (names_of l.firsts l.seconds l.count) ≡ further l.i (register_place l.name (drop l.i (names_of l.firsts l.seconds l.count)))
