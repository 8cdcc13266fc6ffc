-- `registers::checks::is_bounded` meets its contract. The invariant: the numbers are within the bounds if those before i are and those from i on. Assumes nothing.
use mathlib.Core.Path.{◌≡◌, sym, ap, ◌∙◌}
use mathlib.Core.Bool.{◌&&◌}
use native.Mathlib.Omega.{arith}
use lib.ListN.{get_or}
use lib.IntN.{pos}
use mir.Syntax.{w32}
use mir.Val.{SFits}
use mir.Facts.{to_z-of_z}
use Rattle.std.proofs.Common.{rules}
use Rattle.registers.specs.Checks.Checks.{in_bounds}
use Rattle.registers.proofs.checks.CheckLaws.{within_on, within_end, and_nothing}
use Rattle.registers.proofs.checks.is_bounded.Goals as goal

pub loop-i-preserved : goal.loop-i-preserved
loop-i-preserved c =
    let v : c.is_within.result ≡ in_bounds (get_or c.args.values.now c.loop-i.i (pos 0)) =
    let f : SFits w32 (get_or c.args.values.now c.loop-i.i (pos 0)) = search rules in rw (to_z-of_z f) at c.is_within.ensures in
    let t : c.is_within-in-loop-i.result ≡ in_bounds (get_or c.args.steps.now c.loop-i.i (pos 0)) =
    let f : SFits w32 (get_or c.args.steps.now c.loop-i.i (pos 0)) = search rules in rw (to_z-of_z f) at c.is_within-in-loop-i.ensures in
    c.loop-i.invariant ∙ within_on c.args.values.now c.args.steps.now c.args.count c.requires (omega arith) c.loop-i.within c.is_within.result c.is_within-in-loop-i.result c.loop-i.i c.loop-i-test.true v t

pub returns : goal.returns
returns c =
    sym (c.loop-i.invariant
    ∙ ap (λ b. c.loop-i.within && b) (within_end c.args.values.now c.args.steps.now c.args.count c.requires (omega arith) c.loop-i.i (omega arith))
    ∙ and_nothing c.loop-i.within)
