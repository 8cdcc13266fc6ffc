-- `number::expression::literal` meets its contract: the cases of the rules' literal, by what the calls gave. Assumes nothing.
use Rattle.std.proofs.Common.{arith, ◌≡◌, ◌<◌, get_or, sym, ap, ◌∙◌, rules, pos, w32, w64}
use mir.Val.{SFits}
use mir.Facts.{to_z-of_z, to_z_pos}
use Rattle.std.proofs.lemmas.Result.{err_from_is_err_and}
use Rattle.measure.specs.Scales.{scale_of, literal_of}
use Rattle.rules.specs.Numbers.{within}
use Rattle.rules.specs.Results.{judged}
use Rattle.number.proofs.expression.Literals.{Found, found, Scaled, is_huge, is_empty, own_scale, default_scale, letter, literal_small, given_value, refused_value}
use Rattle.number.proofs.expression.literal.Goals as goal
use Rattle.number.proofs.expression.literal.Goals.{In_ok-n, After-units_of_literal-units, After-judge, in-Some, in-None}

-- what the reader of digits gave
given : (c : In_ok-n) → Found c.args.s.now c.args.at c.in_ok-n.n c.in_ok-n.next
given c = found c.args.s.now c.args.at c.in_ok-n.n c.in_ok-n.next c.requires.0 (sym c.digits_at.ensures ∙ c.in_ok-n.was)

-- the scale, and where it ends
scale : (c : After-units_of_literal-units) → Found c.args.s.now c.args.at c.in_ok-n.n c.in_ok-n.next
    → Scaled c.args.s.now c.args.at c.args.pitch c.args.default c.in_ok-n.n c.match-scale_of.scale.0 c.match-scale_of.scale.1
scale c f =
    let a = c.args in
    let n = c.in_ok-n.n in
    let next = c.in_ok-n.next in
    let b : scale_of (get_or a.s.now next 0) ≡ c.scale_of.result = ap scale_of (sym c.byte_at.ensures.value) ∙ sym c.scale_of.ensures in
    elim c.match-scale_of.branch [
      | in-Some w ↦
          let e = b ∙ w.in-Some.is in
          let u = letter c.byte_at.result w.in-Some.scale (sym c.scale_of.ensures ∙ w.in-Some.is) in
          rw w.scale-is (own_scale a.s.now a.at a.pitch a.default n next f c.if-next-at.false w.in-Some.scale e (omega (arith, c.byte_at.ensures.upper_bound)))
      | in-None w ↦ rw w.scale-is (default_scale a.s.now a.at a.pitch a.default n next f c.if-next-at.false (b ∙ w.in-None.is))
    ]

-- what was judged
units : (c : After-judge) → Found c.args.s.now c.args.at c.in_ok-n.n c.in_ok-n.next → judged c.judge.result ≡ within (pos (literal_of c.args.pitch c.match-scale_of.scale.0 c.in_ok-n.n))
units c f =
    let h : c.args.pitch.cell < 256 = search rules in
    let k : c.args.pitch.row < 256 = search rules in
    let small = literal_small c.args.pitch c.match-scale_of.scale.0 c.in_ok-n.n h k f.few in
    c.judge.ensures ∙ ap within (to_z_pos w64 (omega (arith, small)) ∙ ap pos c.units_of_literal-units.ensures)

pub returns-in_err-n-clause-result_value : goal.returns-in_err-n-clause-result_value
returns-in_err-n-clause-result_value c =
    let a = c.args in
    let p = err_from_is_err_and c.from_residual.result c.from_residual.ensures.1 in
    rw (p.1, p.2) (is_huge a.s.now a.at a.pitch a.default c.requires.1 (sym c.digits_at.ensures ∙ c.in_err-n.was))

pub returns-then-next-at-clause-result_value : goal.returns-then-next-at-clause-result_value
returns-then-next-at-clause-result_value c =
    let a = c.args in
    let g = given (goal.at.returns-then-next-at-clause-result_value c).In_ok-n in
    is_empty a.s.now a.at a.pitch a.default c.in_ok-n.n c.in_ok-n.next g c.if-next-at.true

pub returns-in_err-value-clause-result_value : goal.returns-in_err-value-clause-result_value
returns-in_err-value-clause-result_value c =
    let y = goal.at.returns-in_err-value-clause-result_value c in
    let p = err_from_is_err_and c.from_residual-in_err-value.result c.from_residual-in_err-value.ensures.1 in
    rw (p.1, p.2) (refused_value (scale y.After-units_of_literal-units (given y.In_ok-n)) (rw c.in_err-value.was at (units y.After-judge (given y.In_ok-n))))

pub returns-clause-result_value : goal.returns-clause-result_value
returns-clause-result_value c =
    let y = goal.at.returns-clause-result_value c in
    let f : SFits w32 c.in_ok-value.value = search rules in
    rw (to_z-of_z f) (given_value (scale y.After-units_of_literal-units (given y.In_ok-n)) (rw c.in_ok-value.was at (units y.After-judge (given y.In_ok-n))))

pub returns-clause-forward : goal.returns-clause-forward
returns-clause-forward c =
    let y = goal.at.returns-clause-forward c in
    let g = scale y.After-units_of_literal-units (given y.In_ok-n) in (g.low, g.high)
