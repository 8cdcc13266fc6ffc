-- `record_words::encoding::put_planted` meets its contract. The invariant: the words of i traps are written. Assumes nothing.
use native.Mathlib.Omega.{arith}
use borrow.Author.Count.{below_more}
use Rattle.record_words.proofs.encoding.Puts.{trap_step}
use Rattle.record_words.proofs.encoding.put_planted.Goals as goal

pub loop-i-preserved : goal.loop-i-preserved
loop-i-preserved c = (
  rw (c.put_trap.ensures.0, c.loop-i.invariant.0) (trap_step _ c.args.planted.traps c.loop-i.i _ (omega arith)),
  below_more _ _ c.loop-i.invariant.1 c.put_trap.ensures.1,
)
