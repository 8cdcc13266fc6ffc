-- `scan::arguments::bare_argument` meets its contract. The invariant: as many bytes are written as are passed, and what the whole leads to is what it leads to from here on. Assumes nothing.
use Prim.Native.Nat.{ℕ, ◌+◌}
use mathlib.Core.Path.{◌≡◌, ap, ◌∙◌}
use native.Mathlib.Omega.{arith}
use lib.ListN.{length, drop}
use mathlib.Core.List.{[]}
use borrow.Author.Tests.{ne_eqb}
use Rattle.rules.specs.Arguments.{bare, part}
use Rattle.scan.proofs.arguments.Parts.{onward, ends, bare_turn, bare_stop, any_end}
use Rattle.scan.proofs.arguments.bare_argument.Goals as goal

pub returns-then-line-i-eq32 : goal.returns-then-line-i-eq32
returns-then-line-i-eq32 c =
    let l = c.loop-i in
    ends bare _ _ _ _ l.i _ l.w l.i l.invariant.1 (bare_stop _ l.i c.loop-i-test.true c.if-line-i-eq32.true) l.auto.i (omega arith) (omega arith)

pub loop-i-preserved : goal.loop-i-preserved
loop-i-preserved c =
    let l = c.loop-i in
    let a = c.args in
    (omega arith, onward bare a.line.now a.at a.out.now a.written l.i l.out l.w _ (l.i + 1) l.invariant.1 (bare_turn _ l.i c.loop-i-test.true (ne_eqb _ _ c.if-line-i-eq32.false)))

pub returns : goal.returns
returns c =
    let l = c.loop-i in
    let s = c.args.line.now in
    let e : l.i ≡ length s = omega (arith, l.auto.i-end c.requires.inside) in
    ends bare _ _ _ _ l.i _ l.w (length s) l.invariant.1 (any_end s l.i bare c.loop-i-test.false ∙ ap (λ (n : ℕ). part [] (drop n s)) e) c.requires.inside (omega arith) (omega arith)
