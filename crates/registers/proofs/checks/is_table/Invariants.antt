use Prim.Native.Nat.{◌-◌}
use mathlib.Core.Path.{◌≡◌}
use lib.ListN.{drop}
use Rattle.registers.specs.Table.Columns.{names_of}
use Rattle.registers.specs.Checks.Checks.{in_order, is_register_table}
use Rattle.registers.proofs.checks.is_table.Given as goal

abbrev pub invariant-loop-next : goal.invariant-loop-next
invariant-loop-next l = is_register_table l.firsts l.seconds l.count ≡ in_order (drop (l.next - 1) (names_of l.firsts l.seconds l.count))
