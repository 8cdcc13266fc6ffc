use Prim.Native.Nat.{◌≤◌}
use mathlib.Core.Path.{◌≡◌}
use lib.ListN.{length, take, drop}
use Rattle.source_line.specs.Gathering.{line_from}
use Rattle.source_line.proofs.gather_line.Given as goal

-- the whole is what is to come from here with the bytes so far
abbrev pub invariant-loop-at : goal.invariant-loop-at
invariant-loop-at l =
    (l.length ≤ 512) × (length l.line ≡ 512) × (line_from l.from (drop l.from l.block) (take l.start l.initial.line) ≡ line_from l.at (drop l.at l.block) (take l.length l.line))
