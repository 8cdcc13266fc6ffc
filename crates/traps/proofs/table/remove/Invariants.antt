use Rattle.std.proofs.Common.{◌≡◌, ◌+◌, drop}
use Rattle.std.proofs.Math.Seq.{paste}
use Rattle.traps.proofs.table.remove.Given as goal

abbrev pub invariant-loop-j : goal.invariant-loop-j
invariant-loop-j l = l.traps ≡ paste l.initial.traps l.at (drop (l.at + 1) l.initial.traps) l.j
