-- Each one's measure is twice the unread bytes, and one more for an expression, which reads its first term where it starts.
use Rattle.std.proofs.Common.{◌-◌, ◌*◌, ◌+◌, length}
use Rattle.number.proofs.expression.Cases.{From}
use Rattle.number.proofs.expression.+expression_term.Given as goal

abbrev pub decreases-expression : goal.decreases-expression
decreases-expression l = 2 * (length l.s.now - l.at) + 1

abbrev pub decreases-term : goal.decreases-term
decreases-term l = 2 * (length l.s.now - l.at)

abbrev pub invariant-expression-loop-op : goal.invariant-expression-loop-op
invariant-expression-loop-op l = From l.pitch l.default l.s l.at l.left l.v l.i

abbrev pub decreases-expression-loop-op : goal.decreases-expression-loop-op
decreases-expression-loop-op l = length l.s - l.i
