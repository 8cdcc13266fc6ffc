-- `scan::arguments::quoted_argument` meets its contract. Assumes nothing.
use Prim.Native.Nat.{◌+◌}
use mathlib.Core.Path.{sym, ◌∙◌}
use native.Mathlib.Omega.{arith}
use borrow.Author.Tests.{eqb-true, ne_eqb}
use Rattle.rules.specs.Arguments.{quoted}
use Rattle.scan.proofs.arguments.Parts.{onward, ends, quoted_turn, quoted_two, quoted_stop, quote_inside, any_end}
use Rattle.scan.proofs.arguments.quoted_argument.Goals as goal

pub loop-i-preserved-then-b-ne34 : goal.loop-i-preserved-then-b-ne34
loop-i-preserved-then-b-ne34 c =
    let l = c.loop-i in
    let a = c.args in (
      omega arith,
      omega arith,
      omega arith,
      onward quoted a.line.now a.at a.out.now a.written l.i l.out l.w _ (l.i + 1) l.invariant.3 (quoted_turn _ l.i c.loop-i-test.true (ne_eqb _ _ c.if-b-ne34.true)),
    )

pub returns-in-loop-i : goal.returns-in-loop-i
returns-in-loop-i c =
    let l = c.loop-i in
    let a = c.args in
    ends quoted a.line.now a.at a.out.now a.written l.i l.out l.w (l.i + 1) l.invariant.3
    (quoted_stop a.line.now l.i c.loop-i-test.true c.if-b-ne34.false (sym c.quote_at.ensures ∙ c.if-quote_at.false)) (omega arith) (omega arith) (omega arith)

pub loop-i-preserved : goal.loop-i-preserved
loop-i-preserved c =
    let l = c.loop-i in
    let a = c.args in
    let q = sym c.quote_at.ensures ∙ c.if-quote_at.true in
    let k = quote_inside a.line.now (l.i + 1) q in
    let e = c.if-b-ne34.false in (
      omega arith,
      omega (arith, k),
      omega arith,
      onward quoted a.line.now a.at a.out.now a.written l.i l.out l.w _ (l.i + 2) l.invariant.3
          (quoted_two a.line.now l.i c.loop-i-test.true e k (eqb-true _ _ q)),
    )

pub returns : goal.returns
returns c =
    let l = c.loop-i in
    ends quoted _ _ _ _ l.i _ l.w l.i l.invariant.3 (any_end _ l.i quoted c.loop-i-test.false) l.invariant.0 l.invariant.1 l.invariant.2
