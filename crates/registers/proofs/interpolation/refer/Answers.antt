-- `registers::interpolation::refer` meets its contract: a law for each way out. Assumes nothing.
use mathlib.Core.Path.{sym, ap, ◌∙◌}
use mir.Syntax.{w32}
use mir.Val.{SFits}
use mir.Facts.{to_z-of_z}
use Rattle.std.proofs.Common.{rules, inl, inr}
use Rattle.registers.specs.Interpolation.ReadOnly.{shows, read_only_of}
use Rattle.registers.proofs.interpolation.ReadOnlyLaws.{refer_still, refer_up, refer_down, refer_step}
use Rattle.registers.proofs.interpolation.refer.Goals as goal

pub returns-in_default : goal.returns-in_default
returns-in_default c =
    refer_step c.args.registers.now c.args.shown c.args.name c.args.turn c.step.result c.step.new.registers
    (ap read_only_of (sym c.in_default.is) ∙ c.predefined.ensures) c.step.ensures

pub returns-in-Still : goal.returns-in-Still
returns-in-Still c =
    let f : SFits w32 c.read.result = search rules in
    rw (to_z-of_z f, c.in-Still.is, c.read.ensures)
    (refer_still c.args.registers.now c.args.shown c.args.name (shows c.in-Some.register)
    (ap read_only_of (sym c.in-Some.is) ∙ c.predefined.ensures))

pub returns-in-Up : goal.returns-in-Up
returns-in-Up c =
    let e = ap read_only_of (sym c.in-Some.is) ∙ c.predefined.ensures in
    elim c.in-Up.is [
      | inl q ↦ rw q (refer_up c.args.registers.now c.args.shown c.args.name (shows c.in-Some.register) e)
      | inr q ↦ rw q (refer_down c.args.registers.now c.args.shown c.args.name (shows c.in-Some.register) e)
    ]
