-- `fill::rows::share_of` meets its contract. Assumes nothing.
use mathlib.Core.Path.{sym, ◌∙◌}
use native.Mathlib.Omega.{arith}
use Rattle.fill.proofs.unfilled.Spreading.{share_none, share_some, share_off}
use Rattle.fill.proofs.rows.share_of.Goals as goal

pub returns-then-k-eq0 : goal.returns-then-k-eq0
returns-then-k-eq0 c =
    let a = c.args in
    rw c.if-adjusting.true (share_none a.cells.now a.length a.room (omega arith) (sym c.count_gaps-k.ensures ∙ c.if-k-eq0.true))

pub returns-then-adjusting : goal.returns-then-adjusting
returns-then-adjusting c =
    let a = c.args in
    rw c.if-adjusting.true (share_some a.cells.now a.length a.room (omega arith) c.count_gaps-k.result c.spare-e.result c.count_gaps-k.ensures c.spare-e.ensures (omega arith))

pub returns : goal.returns
returns c =
    let a = c.args in
    rw c.if-adjusting.false (share_off a.cells.now a.length a.room (omega arith))
