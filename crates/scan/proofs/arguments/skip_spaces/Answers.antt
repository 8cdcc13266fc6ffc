-- `scan::arguments::skip_spaces` meets its contract. The invariant: what follows the spaces from here on is what follows them from the start. Assumes nothing.
use Prim.Native.Nat.{ℕ}
use mathlib.Core.Path.{◌≡◌, sym, ap, ◌∙◌}
use native.Mathlib.Omega.{arith}
use lib.ListN.{length, drop}
use borrow.Author.Tests.{ne_eqb}
use Rattle.rules.specs.Arguments.{after_spaces}
use Rattle.scan.proofs.arguments.Parts.{space_more, space_stop, space_end}
use Rattle.scan.proofs.arguments.skip_spaces.Goals as goal

pub returns-then-line-i-ne32 : goal.returns-then-line-i-ne32
returns-then-line-i-ne32 c =
    let l = c.loop-i in
    record { is = space_stop _ l.i c.loop-i-test.true (ne_eqb _ _ c.if-line-i-ne32.true) ∙ sym l.invariant; onward = l.auto.i; inside = omega arith }

pub loop-i-preserved : goal.loop-i-preserved
loop-i-preserved c = c.loop-i.invariant ∙ space_more _ c.loop-i.i c.loop-i-test.true c.if-line-i-ne32.false

pub returns : goal.returns
returns c =
    let s = c.args.line.now in
    let e : c.loop-i.i ≡ length s = omega (arith, c.loop-i.auto.i-end c.requires) in
    record { is = space_end s (length s) (omega arith) ∙ ap (λ (n : ℕ). after_spaces (drop n s)) (sym e) ∙ sym c.loop-i.invariant; onward = c.requires; inside = omega arith }
