-- The answers of the cycle of calls {carry_out, expand_text}: how the expansion goes on behind an escape. Assumes nothing.
use Rattle.scan.proofs.expansion.Driver.{over, goes_on, ended}
use Rattle.scan.proofs.expansion.+carry_out_expand_text.Goals as goal

pub expand_text-returns-in-Ok-Over : goal.expand_text-returns-in-Ok-Over
expand_text-returns-in-Ok-Over t c = over c.loop-refusal.invariant (rw c.in-Ok-Over.field-0-is at (rw c.in-Ok-Over.is at c.next_escape.ensures))

pub expand_text-loop-refusal-preserved : goal.expand_text-loop-refusal-preserved
expand_text-loop-refusal-preserved t c =
    goes_on c.loop-refusal.invariant (rw c.in-Ok-Escape.field-0-is at (rw c.in-Ok-Escape.is at c.next_escape.ensures)) (rw c.in-Over.is at (rw c.in_ok-over-in-Ok-Escape.was at c.carry_out.ensures))

pub expand_text-returns-in-Ended : goal.expand_text-returns-in-Ended
expand_text-returns-in-Ended t c =
    ended c.loop-refusal.invariant (rw c.in-Ok-Escape.field-0-is at (rw c.in-Ok-Escape.is at c.next_escape.ensures)) (rw c.in-Ended.is at (rw c.in_ok-over-in-Ok-Escape.was at c.carry_out.ensures))
