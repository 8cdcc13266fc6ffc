-- `scan::arguments::arguments` meets its contract: one argument after the other. Assumes nothing.
use Prim.Native.Nat.{ℕ}
use mathlib.Core.Path.{◌≡◌, sym, subst}
use native.Mathlib.Omega.{arith}
use Rattle.scan.specs.Arguments.Parting.{PartedAll}
use Rattle.scan.proofs.arguments.Parting.{none_yet, one_more, no_more, nine_there}
use Rattle.scan.proofs.arguments.arguments.Goals as goal

pub loop-count-init : goal.loop-count-init
loop-count-init c = let p = c.requires in none_yet _ _ _ _ p.0.inside p.0.long p.1 p.0.short

pub returns-in_default : goal.returns-in_default
returns-in_default c =
    let l = c.loop-count in
    let a = c.args in
    let t = rw c.in_default.is at c.next_argument.ensures in
    subst (λ o. PartedAll a.line.now a.at l.count o l.ends) (sym t.1) (no_more _ _ _ _ _ _ _ l.invariant (omega arith) t.0)

pub loop-count-preserved : goal.loop-count-preserved
loop-count-preserved c = one_more _ _ _ _ _ _ _ c.loop-count.invariant _ _ (omega arith) (rw c.in-Some.is at c.next_argument.ensures)

pub returns : goal.returns
returns c =
    let l = c.loop-count in
    let e : l.count ≡ 9 = omega arith in
    subst (λ (n : ℕ). PartedAll c.args.line.now c.args.at n l.out l.ends) e (nine_there _ _ _ _ _ _ _ l.invariant (omega arith))
