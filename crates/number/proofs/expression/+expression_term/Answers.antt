-- The answers of the cycle of calls {expression, term}: the rules' cases, by what the calls gave. Assumes nothing.
use Rattle.std.proofs.Common.{arith, rules, ◌≡◌, ◌+◌, ◌≤◌, ◌<◌, ℕ, suc, length, get_or, sym, ◌∙◌, ℤ, pos, ◌-ℤ◌, w32, to_z, of_z, Ok, Some}
use Rattle.std.proofs.lemmas.Result.{err_from_is_err_and}
use lib.IntN.{nat_abs, neg_ℤ, +ℤ_idl}
use mir.Val.{SFits}
use mir.Facts.{to_z-of_z}
use Rattle.measure.specs.RoundingLaws.{abs_neg}
use Rattle.rules.specs.Numbers.{operate as operateOf}
use Rattle.rules.specs.Results.{judged}
use Rattle.number.specs.Expression.Meaning.{TermIs}
use Rattle.number.proofs.arithmetic.Laws.{small_32}
use Rattle.number.proofs.expression.Cases.{JointIs, start, done, cut, refused, turn, plain, minus_cut, minus_is, plus_is, deep, inner, shut, unshut, small}
use Rattle.number.proofs.expression.+expression_term.Goals as goal
use Rattle.number.proofs.expression.+expression_term.Goals.{expression-In-Some, expression-In_ok-x, expression-After-operate, term-After-byte_at}

-- what the calls of a turn gave
module _ (t : ℕ) where
  joint : (c : expression-In-Some t) → JointIs c.args.s.now c.loop-op.i (Some (c.in-Some.op, c.in-Some.width))
  joint c = record { is = c.in-Some.ensures.result_value; good = c.in-Some.ensures.good_joint }

  next : (c : expression-In_ok-x t) → TermIs c.args.pitch c.args.default c.args.s.now (c.loop-op.i + c.in-Some.width) c.args.left (Ok (c.in_ok-x.x, c.in_ok-x.after))
  next c = c.in_ok-x.ensures

  -- what the operator gave, with its second operand read back from its bits
  stepped : (c : expression-After-operate t) → judged c.operate.result ≡ operateOf c.in-Some.op (to_z w32 c.loop-op.v-bits) c.in_ok-x.x
  stepped c = let f : SFits w32 c.in_ok-x.x = search rules in rw (to_z-of_z f) at c.operate.ensures

  -- the byte at a term's place, which is within the text if it is not 0
  is_byte : (c : term-After-byte_at t) {k : ℕ} → c.byte_at.result ≡ k → get_or c.args.s.now c.args.at 0 ≡ k
  is_byte c e = sym c.byte_at.ensures.value ∙ e

  inside : (c : term-After-byte_at t) {k : ℕ} → c.byte_at.result ≡ suc k → c.args.at < length c.args.s.now
  inside c e = omega (arith, c.byte_at.ensures.upper_bound, e)

-- a value with the other sign
negative : (v : ℤ) → nat_abs v ≤ 1000000000 → (to_z w32 (of_z w32 (pos 0 -ℤ to_z w32 (of_z w32 v))) ≡ neg_ℤ v) × SFits w32 (pos 0 -ℤ to_z w32 (of_z w32 v))
negative v h =
    let f : SFits w32 v = small_32 v h in
    let g : SFits w32 (neg_ℤ v) = small_32 (neg_ℤ v) (omega (arith, abs_neg v)) in
    (simp (to_z-of_z f, +ℤ_idl, to_z-of_z g), simp (to_z-of_z f, +ℤ_idl) g)

pub expression-loop-op-init : goal.expression-loop-op-init
expression-loop-op-init t c = let f : SFits w32 c.in_ok-v.v = search rules in rw (to_z-of_z f) (start c.in_ok-v.ensures)

pub expression-returns-in_err-x : goal.expression-returns-in_err-x
expression-returns-in_err-x t c =
    let p = err_from_is_err_and c.from_residual-in_err-x.result c.from_residual-in_err-x.ensures.1 in
    rw (p.1, p.2) (cut c.loop-op.invariant (joint t (goal.at.expression-returns-in_err-x t c).In-Some) c.in_err-x.ensures)

pub expression-returns-in_err-v-2 : goal.expression-returns-in_err-v-2
expression-returns-in_err-v-2 t c =
    let y = goal.at.expression-returns-in_err-v-2 t c in
    let p = err_from_is_err_and c.from_residual-in_err-v-2.result c.from_residual-in_err-v-2.ensures.1 in
    rw (p.1, p.2) (refused c.loop-op.invariant (joint t y.In-Some) (next t y.In_ok-x) (rw c.in_err-v-2.was at (stepped t y.After-operate)))

pub expression-loop-op-preserved : goal.expression-loop-op-preserved
expression-loop-op-preserved t c =
    let y = goal.at.expression-loop-op-preserved t c in
    let f : SFits w32 c.in_ok-v-2.v = search rules in
    rw (to_z-of_z f) (turn c.loop-op.invariant (joint t y.In-Some) (next t y.In_ok-x) (rw c.in_ok-v-2.was at (stepped t y.After-operate)))

pub expression-returns : goal.expression-returns
expression-returns t c = done c.loop-op.invariant (record { is = c.in_default.ensures.result_value; good = c.in_default.ensures.good_joint })

pub term-returns-in_err-v-in-40-2 : goal.term-returns-in_err-v-in-40-2
term-returns-in_err-v-in-40-2 t c =
    let y = (goal.at.term-returns-in_err-v-in-40-2 t c).After-byte_at in
    let i = c.in-40.is in
    let p = err_from_is_err_and c.from_residual.result c.from_residual.ensures.1 in
    rw (p.1, p.2) (inner c.requires.0 (inside t y i) (is_byte t y i) (omega (arith, c.if-left-eq0.false)) c.in_err-v-in-40-2.ensures)

pub term-returns-then-byte_at-ne41 : goal.term-returns-then-byte_at-ne41
term-returns-then-byte_at-ne41 t c =
    let y = (goal.at.term-returns-then-byte_at-ne41 t c).After-byte_at in
    let i = c.in-40.is in
    unshut c.requires.0 (inside t y i) (is_byte t y i) (omega (arith, c.if-left-eq0.false)) c.in_ok-v-in-40-2.ensures (λ e. c.if-byte_at-ne41.true (c.byte_at-in-40-2.ensures.value ∙ e))

pub term-returns-in_err-v-in-45 : goal.term-returns-in_err-v-in-45
term-returns-in_err-v-in-45 t c =
    let y = (goal.at.term-returns-in_err-v-in-45 t c).After-byte_at in
    let p = err_from_is_err_and c.from_residual-in_err-v-in-45.result c.from_residual-in_err-v-in-45.ensures.1 in
    rw (p.1, p.2) (minus_cut c.requires.0 (inside t y c.in-45.is) (is_byte t y c.in-45.is) c.in_err-v-in-45.ensures)

pub term-overflow_sub-result : goal.term-overflow_sub-result
term-overflow_sub-result t c = (negative c.in_ok-v-in-45.v (small c.in_ok-v-in-45.ensures)).1

pub term-returns-in-40 : goal.term-returns-in-40
term-returns-in-40 t c =
    let y = (goal.at.term-returns-in-40 t c).After-byte_at in
    deep c.requires.0 (inside t y c.in-40.is) (is_byte t y c.in-40.is) c.if-left-eq0.true

pub term-returns-else-byte_at-ne41 : goal.term-returns-else-byte_at-ne41
term-returns-else-byte_at-ne41 t c =
    let y = (goal.at.term-returns-else-byte_at-ne41 t c).After-byte_at in
    let i = c.in-40.is in
    let f : SFits w32 c.in_ok-v-in-40-2.v = search rules in
    rw (to_z-of_z f)
    (shut c.requires.0 (inside t y i) (is_byte t y i) (omega (arith, c.if-left-eq0.false)) c.in_ok-v-in-40-2.ensures
    (sym c.byte_at-in-40-2.ensures.value ∙ c.if-byte_at-ne41.false) (omega (arith, c.byte_at-in-40-2.ensures.upper_bound, c.if-byte_at-ne41.false)))

pub term-returns-in_ok-v-in-45 : goal.term-returns-in_ok-v-in-45
term-returns-in_ok-v-in-45 t c =
    let y = (goal.at.term-returns-in_ok-v-in-45 t c).After-byte_at in
    rw (negative c.in_ok-v-in-45.v (small c.in_ok-v-in-45.ensures)).0 (minus_is c.requires.0 (inside t y c.in-45.is) (is_byte t y c.in-45.is) c.in_ok-v-in-45.ensures)

pub term-returns-in-43 : goal.term-returns-in-43
term-returns-in-43 t c =
    let y = (goal.at.term-returns-in-43 t c).After-byte_at in
    plus_is c.requires.0 (inside t y c.in-43.is) (is_byte t y c.in-43.is) c.term-in-43.ensures

pub term-returns-in_default : goal.term-returns-in_default
term-returns-in_default t c =
    let e = c.byte_at.ensures.value in
    plain c.requires.0 (λ q. omega arith) (λ q. omega arith) (λ q. omega arith) c.literal.ensures.result_value c.literal.ensures.forward
