-- `scan::expansion::expand` meets its contract: the text of a line is within no other. Assumes nothing.
use Rattle.std.proofs.Common.{inl, inr}
use Rattle.std.proofs.lemmas.Result.{err_from_is_err_and}
use Rattle.scan.proofs.expansion.Driver.{line_over, line_ended, line_refused}
use Rattle.scan.proofs.expansion.expand.Goals as goal

pub returns-in_err-n : goal.returns-in_err-n
returns-in_err-n c =
    let p = err_from_is_err_and c.from_residual.result c.from_residual.ensures.1 in
    rw (p.1, p.2) (line_refused c.args.prefix c.saturating_sub-limit.ensures c.saturating_sub-left.ensures (rw c.in_err-n.was at c.expand_text.ensures))

pub returns-in-Over : goal.returns-in-Over
returns-in-Over c =
    let x = rw c.in_ok-n.was at c.expand_text.ensures in
    elim c.in-Over.is [
      | inl e ↦ line_over c.args.prefix c.saturating_sub-limit.ensures c.saturating_sub-left.ensures (rw e.1 at x)
      | inr e ↦ line_ended c.args.prefix c.saturating_sub-limit.ensures c.saturating_sub-left.ensures (rw e at x)
    ]

pub returns-in-Over-2 : goal.returns-in-Over-2
returns-in-Over-2 c =
    let x = rw c.in_ok-n.was at c.expand_text.ensures in
    elim c.in-Over.is [
      | inl e ↦ line_over c.args.prefix c.saturating_sub-limit.ensures c.saturating_sub-left.ensures (rw e.1 at x)
      | inr e ↦ line_ended c.args.prefix c.saturating_sub-limit.ensures c.saturating_sub-left.ensures (rw e at x)
    ]
