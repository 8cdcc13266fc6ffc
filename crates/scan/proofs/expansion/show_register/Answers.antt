-- `scan::expansion::show_register` meets its contract: by the value of the reference. Assumes nothing.
use Rattle.scan.proofs.expansion.Actions.{shown_is}
use mir.Syntax.{w32}
use mir.Val.{SFits}
use mir.Facts.{to_z-of_z}
use Rattle.std.proofs.Common.{rules}
use Rattle.scan.proofs.expansion.show_register.Goals as goal

pub returns : goal.returns
returns c =
    let v = c.in_ok-value.value in
    let f : SFits w32 v = search rules in
    shown_is v (rw c.in_ok-value.was at c.refer.ensures) c.requires (rw (to_z-of_z f) at (rw c.in_ok-n.was at c.write_number.ensures))
