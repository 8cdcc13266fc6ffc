-- `traps::table::plant` meets its contract. Assumes nothing.
use Rattle.std.proofs.Common.{sym, ◌∙◌, arith, length-take}
use Rattle.traps.specs.Table.Table.{index_of, planted_of}
use Rattle.traps.specs.Table.TableLaws.{position_at, position_none, plant_old, plant_last, plant_full}
use Rattle.traps.proofs.table.plant.Goals as goal

pub returns-in-Some : goal.returns-in-Some
returns-in-Some c =
    let a = c.args in
    let h = position_at a.place.0 (planted_of a.p) c.in-Some.at (sym c.in-Some.is ∙ c.index_of.ensures) in
    plant_old a.p (omega arith) c.requires a.place.0 a.name c.in-Some.at h.0 (omega (arith, length-take a.p.count a.p.traps))

pub returns-then-p-eq16 : goal.returns-then-p-eq16
returns-then-p-eq16 c =
    let a = c.args in
    let h = position_none a.place.0 (planted_of a.p) (sym c.in_default.is ∙ c.index_of.ensures) in
    plant_full a.p (omega arith) c.requires a.place.0 a.name _ (λ i. index_of a.place.0 (planted_of a.p)) (omega (arith, length-take a.p.count a.p.traps)) (omega arith)

pub returns : goal.returns
returns c =
    let a = c.args in
    let h = position_none a.place.0 (planted_of a.p) (sym c.in_default.is ∙ c.index_of.ensures) in
    plant_last a.p (omega arith) c.requires a.place.0 a.name _ (λ i. index_of a.place.0 (planted_of a.p)) (omega (arith, length-take a.p.count a.p.traps)) (omega arith)
