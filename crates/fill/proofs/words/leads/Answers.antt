-- `fill::words::leads` meets its contract. Assumes nothing.
use mathlib.Core.Path.{◌∙◌}
use native.Mathlib.Omega.{arith}
use borrow.Author.Tests.{lt-ltb, le-ltb}
use Rattle.fill.proofs.words.Words.{leads_is}
use Rattle.fill.proofs.words.leads.Goals as goal

pub returns-then-at-from : goal.returns-then-at-from
returns-then-at-from c =
    let a = c.args in
    let s = c.skip_spaces-from in
    rw (lt-ltb a.at s.result c.if-at-from.true) at (leads_is a.line.now a.at a.to s.result (omega arith) (omega arith) s.ensures.value (omega arith))

pub returns-else-at-from : goal.returns-else-at-from
returns-else-at-from c =
    let a = c.args in
    let s = c.skip_spaces-from in
    let e = le-ltb a.at s.result c.if-at-from.false in
    e ∙ rw e at (leads_is a.line.now a.at a.to s.result (omega arith) (omega arith) s.ensures.value (omega arith))
