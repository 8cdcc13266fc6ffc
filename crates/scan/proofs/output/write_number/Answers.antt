-- `scan::output::write_number` meets its contract, by the sign of the value. Assumes nothing.
use Rattle.scan.proofs.output.Decimals.{plain_bytes, signed_bytes}
use mir.Facts.{to_z-of_z}
use lib.IntN.{ℤ, nat_abs}
use mathlib.Core.Path.{◌≡◌, ◌∙◌, ap}
use Rattle.scan.proofs.output.write_number.Goals as goal
use Rattle.scan.proofs.output.write_number.Goals.{After-unsigned_abs}

size : (c : After-unsigned_abs) → c.unsigned_abs.result ≡ nat_abs c.args.value
size c = c.unsigned_abs.ensures.value ∙ ap (λ (z : ℤ). nat_abs z) (to_z-of_z c.ranges.value)

pub returns-then-value-lt0 : goal.returns-then-value-lt0
returns-then-value-lt0 c =
    let d = c.digits_of-at in
    let t = rw (to_z-of_z c.ranges.value) at c.if-value-lt0.true in
    rw (← signed_bytes c.args.value c.unsigned_abs.result d.result d.new.digits (size (goal.at.returns-then-value-lt0 c).After-unsigned_abs) d.ensures t) c.copy_bytes.ensures

pub returns : goal.returns
returns c =
    let d = c.digits_of-at in
    let t = rw (to_z-of_z c.ranges.value) at c.if-value-lt0.false in
    rw (← plain_bytes c.args.value c.unsigned_abs.result d.result d.new.digits (size (goal.at.returns c).After-unsigned_abs) d.ensures t) c.copy_bytes-2.ensures
