-- `scan::arguments::word_end` meets its contract. The invariant: the bytes passed, then the word from here on. Assumes nothing.
use mathlib.Core.Path.{◌≡◌, subst}
use native.Mathlib.Omega.{arith}
use lib.ListN.{length}
use borrow.Author.Tests.{ne_eqb}
use Rattle.rules.specs.Arguments.{bare}
use Rattle.scan.specs.Arguments.Parting.{WordEnds}
use Rattle.scan.proofs.arguments.Parts.{passing, passes, passed, bare_stop, any_end}
use Rattle.scan.proofs.arguments.word_end.Goals as goal

pub loop-i-init : goal.loop-i-init
loop-i-init c = passing c.args.line.now c.args.at

pub returns-then-line-i-eq32 : goal.returns-then-line-i-eq32
returns-then-line-i-eq32 c =
    let l = c.loop-i in
    record { is = passed _ _ l.i l.auto.i l.invariant (bare_stop _ l.i c.loop-i-test.true c.if-line-i-eq32.true); onward = l.auto.i; inside = omega arith }

pub loop-i-preserved : goal.loop-i-preserved
loop-i-preserved c = let l = c.loop-i in passes _ _ l.i l.auto.i l.invariant c.loop-i-test.true (ne_eqb _ _ c.if-line-i-eq32.false)

pub returns : goal.returns
returns c =
    let l = c.loop-i in
    let e : l.i ≡ length c.args.line.now = omega (arith, l.auto.i-end c.requires) in
    subst (WordEnds c.args.line.now c.args.at) e
    (record { is = passed _ _ l.i l.auto.i l.invariant (any_end _ l.i bare c.loop-i-test.false); onward = l.auto.i; inside = omega arith })
