-- `scan::output::digits_of` meets its contract. The invariant: n is still to be written before the digits that stand there. Assumes nothing.
use Rattle.scan.proofs.output.Decimals.{again, last}
use native.Mathlib.Omega.{arith}
use Rattle.scan.proofs.output.digits_of.Goals as goal

pub loop-n-preserved : goal.loop-n-preserved
loop-n-preserved c = again c.loop-n.invariant (omega arith)

pub returns : goal.returns
returns c = last c.loop-n.invariant (omega arith)
