-- `number::expression::evaluate` meets its contract. Assumes nothing.
use Rattle.std.proofs.Common.{arith, rules, w32}
use Rattle.std.proofs.lemmas.Result.{err_from_is_err_and}
use mir.Val.{SFits}
use mir.Facts.{to_z-of_z}
use Rattle.number.proofs.expression.Arguments.{none, all}
use Rattle.number.proofs.expression.evaluate.Goals as goal

pub returns-in_err-v : goal.returns-in_err-v
returns-in_err-v c = let p = err_from_is_err_and c.from_residual.result c.from_residual.ensures.1 in rw (p.1, p.2) (none c.in_err-v.ensures)

pub returns : goal.returns
returns c = let f : SFits w32 c.in_ok-v.v = search rules in rw (to_z-of_z f) (all c.in_ok-v.ensures (omega arith))
