-- No two traps have one place if no two of those from i on have.
use Rattle.std.proofs.Common.{◌≡◌, drop}
use Rattle.traps.specs.Table.Checks.{single, is_trap_table}
use Rattle.traps.specs.Table.Table.{planted_of}
use Rattle.traps.proofs.table.is_table.Given as goal

abbrev pub invariant-loop-i : goal.invariant-loop-i
invariant-loop-i l = is_trap_table l.fn.p ≡ single (drop l.i (planted_of l.fn.p))
