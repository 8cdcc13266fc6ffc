-- `number::arithmetic::operate` meets its contract: what two i32 give fits an i64. The check finds these too, but near its limits. Assumes nothing.
use Rattle.std.proofs.Common.{arith, ◌^◌, w64}
use Rattle.std.proofs.lemmas.Int.{to_z-of_z, fits_signed_mul}
use lib.Signed.{nat_abs-le}
use Rattle.number.proofs.arithmetic.operate.Goals as goal

pub returns-in-Add : goal.returns-in-Add
returns-in-Add c = rw c.in-Add.is (grind (arith, to_z-of_z))

pub returns-in-Subtract : goal.returns-in-Subtract
returns-in-Subtract c = rw c.in-Subtract.is (grind (arith, to_z-of_z))

pub returns-in-Multiply : goal.returns-in-Multiply
returns-in-Multiply c =
    let fits = fits_signed_mul w64 c.args.a c.args.b (2 ^ 31) (2 ^ 31) (nat_abs-le c.args.a c.ranges.a.sfits) (nat_abs-le c.args.b c.ranges.b.sfits) (omega arith) in
    rw c.in-Multiply.is (grind (arith, to_z-of_z))

pub returns-in-Divide-2 : goal.returns-in-Divide-2
returns-in-Divide-2 c = rw c.in-Divide-2.is (grind (arith, to_z-of_z))

pub returns-in-Remainder-2 : goal.returns-in-Remainder-2
returns-in-Remainder-2 c = rw c.in-Remainder-2.is (grind (arith, to_z-of_z))
