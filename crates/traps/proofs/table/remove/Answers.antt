-- `traps::table::remove` meets its contract. The invariant: j of the later traps are at their new places. Assumes nothing.
use Rattle.std.proofs.Common.{◌≡◌, ◌+◌, ◌-◌, refl, sym, ◌∙◌, arith, length-take}
use Rattle.traps.specs.Table.Table.{index_of, planted_of}
use Rattle.traps.specs.Table.TableLaws.{position_at, position_none, remove_by, close_none, close_on}
use Rattle.traps.proofs.Front.{close_next}
use Rattle.traps.proofs.table.remove.Goals as goal

pub returns-in_default : goal.returns-in_default
returns-in_default c =
    let a = c.args in
    let ts = planted_of a.p in
    let h = position_none a.place.0 ts (sym c.in_default.is ∙ c.index_of.ensures) in
    close_none a.p (omega arith) c.requires (index_of a.place.0 ts) (omega (arith, length-take a.p.count a.p.traps)) ∙ remove_by a.p a.place.0 (index_of a.place.0 ts) refl

pub loop-j-preserved : goal.loop-j-preserved
loop-j-preserved c =
    rw c.loop-j.invariant (close_next c.args.p.traps c.in-Some.at c.loop-j.j _ (omega arith))

pub returns : goal.returns
returns c =
    let a = c.args in
    let ts = planted_of a.p in
    let at = c.in-Some.at in
    let h = position_at a.place.0 ts at (sym c.in-Some.is ∙ c.index_of.ensures) in
    let e : c.loop-j.j ≡ a.p.count - (at + 1) = omega arith in
    close_on a.p (omega arith) c.requires at _ (omega (arith, length-take a.p.count a.p.traps)) (rw e at c.loop-j.invariant) ∙ remove_by a.p a.place.0 at h.0
