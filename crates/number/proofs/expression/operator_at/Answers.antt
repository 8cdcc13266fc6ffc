-- `number::expression::operator_at` meets its contract: each arm's byte picks an operator of the rules' tables. Assumes nothing.
use Rattle.std.proofs.Common.{arith, ◌≡◌, ℕ, eqb, false, refl}
use borrow.Author.Tests.{ne_eqb}
use Rattle.rules.specs.Bytes.{first_where}
use Rattle.rules.specs.Laws.Tables.{absent}
use Rattle.rules.specs.Numbers.{operators, operators_before_equal}
use Rattle.rules.specs.declared.Operator.TheVariants.{Add, Subtract, Multiply, Divide, Remainder, Less, Greater, AtMost, AtLeast, Equal, And, Or}
use Rattle.number.proofs.expression.Places.{one, alone, two, none_at}
use Rattle.number.proofs.expression.operator_at.Goals as goal

pub returns-in-43-clause-result_value : goal.returns-in-43-clause-result_value
unfolding first_where
returns-in-43-clause-result_value c = one c.args.s.now c.args.at 42 (cc) Add refl refl

pub returns-in-45-clause-result_value : goal.returns-in-45-clause-result_value
unfolding first_where
returns-in-45-clause-result_value c = one c.args.s.now c.args.at 44 (cc) Subtract refl refl

pub returns-in-42-clause-result_value : goal.returns-in-42-clause-result_value
unfolding first_where
returns-in-42-clause-result_value c = one c.args.s.now c.args.at 41 (cc) Multiply refl refl

pub returns-in-47-clause-result_value : goal.returns-in-47-clause-result_value
unfolding first_where
returns-in-47-clause-result_value c = one c.args.s.now c.args.at 46 (cc) Divide refl refl

pub returns-in-37-clause-result_value : goal.returns-in-37-clause-result_value
unfolding first_where
returns-in-37-clause-result_value c = one c.args.s.now c.args.at 36 (cc) Remainder refl refl

pub returns-in-38-clause-result_value : goal.returns-in-38-clause-result_value
unfolding first_where
returns-in-38-clause-result_value c = one c.args.s.now c.args.at 37 (cc) And refl refl

pub returns-in-58-clause-result_value : goal.returns-in-58-clause-result_value
unfolding first_where
returns-in-58-clause-result_value c = one c.args.s.now c.args.at 57 (cc) Or refl refl

pub returns-in-60-clause-result_value : goal.returns-in-60-clause-result_value
unfolding first_where
returns-in-60-clause-result_value c = two c.args.s.now c.args.at 59 (cc) AtMost refl (cc)

pub returns-in-60-2-clause-result_value : goal.returns-in-60-2-clause-result_value
unfolding first_where
returns-in-60-2-clause-result_value c = alone c.args.s.now c.args.at 59 (cc) Less refl (λ e. c.if-equal.false (cc))

pub returns-in-62-clause-result_value : goal.returns-in-62-clause-result_value
unfolding first_where
returns-in-62-clause-result_value c = two c.args.s.now c.args.at 61 (cc) AtLeast refl (cc)

pub returns-in-62-2-clause-result_value : goal.returns-in-62-2-clause-result_value
unfolding first_where
returns-in-62-2-clause-result_value c = alone c.args.s.now c.args.at 61 (cc) Greater refl (λ e. c.if-equal-2.false (cc))

pub returns-in-61-clause-result_value : goal.returns-in-61-clause-result_value
unfolding first_where
returns-in-61-clause-result_value c = two c.args.s.now c.args.at 60 (cc) Equal refl (cc)

pub returns-in-61-2-clause-result_value : goal.returns-in-61-2-clause-result_value
unfolding first_where
returns-in-61-2-clause-result_value c = alone c.args.s.now c.args.at 60 (cc) Equal refl (λ e. c.if-equal-3.false (cc))

pub returns-in_default-clause-result_value : goal.returns-in_default-clause-result_value
returns-in_default-clause-result_value c =
    let x = c.byte_at-b.result in
    let other : (k : ℕ) → (x ≡ k → ⊥) → eqb x k ≡ false = λ k n. ne_eqb x k n in
    let e = c.byte_at-b.ensures.value in
    none_at c.args.s.now c.args.at
    (rw (← e) (absent operators_before_equal x (other 60 (λ q. omega arith), (other 62 (λ q. omega arith), (other 61 (λ q. omega arith), tt)))))
    (rw (← e) (absent operators x (other 43 (λ q. omega arith), (other 45 (λ q. omega arith), (other 42 (λ q. omega arith), (other 47 (λ q. omega arith), (other 37 (λ q. omega arith), (other 60 (λ q. omega arith), (other 62 (λ q. omega arith), (other 61 (λ q. omega arith), (other 38 (λ q. omega arith), (other 58 (λ q. omega arith), tt))))))))))))
