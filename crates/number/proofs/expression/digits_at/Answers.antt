-- `number::expression::digits_at` meets its contract. Assumes nothing.
use Rattle.std.proofs.Common.{arith, ◌+◌, ◌∙◌}
use Rattle.number.proofs.expression.Places.{turn, stop, end, read, huge}
use Rattle.number.proofs.expression.digits_at.Goals as goal

pub returns-then-not-is_ascii_digit : goal.returns-then-not-is_ascii_digit
returns-then-not-is_ascii_digit c =
    let l = c.loop-i in
    let s = c.args.s.now in
    read s c.args.at l.n l.i (omega arith) l.invariant.0 (l.invariant.1 ∙ stop s l.i l.n (omega arith) (cc))

pub returns-then-n-gt1000000000 : goal.returns-then-n-gt1000000000
returns-then-n-gt1000000000 c =
    let l = c.loop-i in
    let s = c.args.s.now in
    huge s c.args.at _ (l.i + 1) c.if-n-gt1000000000.true (l.invariant.1 ∙ turn s l.i l.n _ (omega arith) (cc) c.from.ensures)

pub loop-i-preserved : goal.loop-i-preserved
loop-i-preserved c =
    let l = c.loop-i in
    (omega arith, l.invariant.1 ∙ turn c.args.s.now l.i l.n _ (omega arith) (cc) c.from.ensures)

pub returns : goal.returns
returns c =
    let l = c.loop-i in
    let s = c.args.s.now in
    read s c.args.at l.n _ (omega arith) l.invariant.0 (l.invariant.1 ∙ end s l.i l.n (omega arith))
