-- What the rules read from here on is what they read from the start.
use Rattle.std.proofs.Common.{◌≡◌, ◌≤◌, drop}
use Rattle.rules.specs.Numbers.{digits}
use Rattle.number.proofs.expression.digits_at.Given as goal

abbrev pub invariant-loop-i : goal.invariant-loop-i
invariant-loop-i l = (l.n ≤ 1000000000) × (digits 0 (drop l.at l.s) ≡ digits l.n (drop l.i l.s))
