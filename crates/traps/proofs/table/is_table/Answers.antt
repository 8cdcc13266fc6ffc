-- `traps::table::is_table` meets its contract. Assumes nothing.
use Rattle.std.proofs.Common.{◌∙◌, sym, arith}
use Rattle.traps.specs.Table.Table.{planted_of}
use Rattle.traps.proofs.table.Places.{blank}
use Rattle.traps.proofs.table.CheckLaws.{single_next, single_end}
use Rattle.traps.proofs.table.is_table.Goals as goal

pub returns-then-not-lacks_place : goal.returns-then-not-lacks_place
returns-then-not-lacks_place c =
    let e = single_next (planted_of c.args.p) c.loop-i.i blank c.loop-i-test.true in
    rw (c.loop-i.invariant, e, ← c.lacks_place.ensures, c.if-not-lacks_place.true)

pub loop-i-preserved : goal.loop-i-preserved
loop-i-preserved c =
    let e = single_next (planted_of c.args.p) c.loop-i.i blank c.loop-i-test.true in
    c.loop-i.invariant ∙ rw (e, ← c.lacks_place.ensures, c.if-not-lacks_place.false)

pub returns : goal.returns
returns c = sym (c.loop-i.invariant ∙ single_end (planted_of c.args.p) c.loop-i.i (omega arith))
