-- `composition::eject::eject_last` meets its contract. Assumes nothing.
use mathlib.Core.List.{[]}
use native.Mathlib.Omega.{arith}
use Rattle.measure.specs.Counts.{down_of}
use Rattle.traps.specs.Table.Table.{planted_of}
use Rattle.page.specs.Position.Landing.{page_of}
use Rattle.rules.specs.Rows as rule
use Rattle.composition.specs.PageRows.PageState.{page_state}
use Rattle.composition.proofs.page_rows.Work.{rows_few, eject_last_is, same_work}
use Rattle.composition.proofs.eject.eject_last.Goals as goal

pub blank-requires : goal.blank-requires
blank-requires c =
    let a = c.args in
    let p = page_of a.page in let l = down_of a.layout.page in let t = planted_of a.planted in
    (record { sound = c.requires.sound; items = c.requires.items; short = omega arith; long = c.requires.long; names = c.requires.names }, tt, omega (arith, c.rows_below-below.ensures, rows_few p l t, c.requires.sound.limits.page_most))

pub returns : goal.returns
returns c =
    let a = c.args in
    let d = page_state a.layout a.page a.collected a.cells.now a.stack a.arena.now a.ends.now in
    let r = c.rows_below-below in
    same_work a.firsts.now a.seconds.now a.texts a.planted d _ (λ ts s. rule.blank (down_of r.result) [] s) a.page _ _ _ _ c.blank.ensures
    (λ ts x. eject_last_is d (planted_of a.planted) ts x (down_of r.result) r.ensures)
