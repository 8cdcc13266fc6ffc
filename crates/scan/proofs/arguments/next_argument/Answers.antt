-- `scan::arguments::next_argument` meets its contract: what stands behind the spaces decides. Assumes nothing.
use mathlib.Core.Path.{refl}
use Prim.Native.Nat.{◌+◌}
use native.Mathlib.Omega.{arith}
use lib.ListN.{drop}
use borrow.Author.Tests.{ne_eqb}
use Rattle.rules.specs.Arguments.{bare, quoted, up_to}
use Rattle.scan.proofs.arguments.Parting.{no_first, quoted_first, bare_first, takes}
use Rattle.scan.proofs.arguments.next_argument.Goals as goal

pub returns-then-i-line : goal.returns-then-i-line
returns-then-i-line c = (no_first _ _ _ c.skip_spaces-i.ensures (omega arith), refl)

pub returns-then-line-i-eq34 : goal.returns-then-line-i-eq34
returns-then-line-i-eq34 c =
    let y = c.quoted_argument.ensures in
    let k = c.skip_spaces-i in
    let a = c.args in
    takes a.line.now a.at a.out.now a.written _ _ (up_to quoted (drop (k.result + 1) a.line.now))
    (quoted_first _ _ _ k.ensures (omega arith) c.if-line-i-eq34.true) y.is y.count y.rest y.inside (omega (arith, y.short, k.ensures.onward))

pub returns : goal.returns
returns c =
    let y = c.bare_argument.ensures in
    let k = c.skip_spaces-i in
    let a = c.args in
    takes a.line.now a.at a.out.now a.written _ _ (up_to bare (drop k.result a.line.now))
    (bare_first _ _ _ k.ensures (omega arith) (ne_eqb _ _ c.if-line-i-eq34.false)) y.is y.count y.rest y.inside (omega (arith, y.short, k.ensures.onward))
