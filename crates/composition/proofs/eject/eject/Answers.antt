-- `composition::eject::eject` meets its contract. Assumes nothing.
use mathlib.Core.Path.{sym, subst}
use mathlib.Core.List.{[]}
use Prim.Native.Nat.{◌+◌}
use lib.Dec.{ltb}
use native.Mathlib.Omega.{arith}
use borrow.Author.Tests.{eq-eqb, ne_eqb}
use Rattle.measure.specs.Counts.{down_of}
use Rattle.traps.specs.Table.Table.{planted_of}
use Rattle.page.specs.Position.Landing.{page_of}
use Rattle.page.specs.Springs.Held.{held_of, Plain}
use Rattle.rules.specs.Rows as rule
use Rattle.composition.specs.PageRows.PageState.{page_state}
use Rattle.composition.proofs.page_rows.Work.{rows_few, left_plain, eject_other, eject_is, stays, same_work}
use Rattle.composition.proofs.eject.eject.Goals as goal

pub returns-then-from-page : goal.returns-then-from-page
returns-then-from-page c =
    let a = c.args in
    let d = page_state a.layout a.page a.collected a.cells.now a.stack a.arena.now a.ends.now in
    rw c.stay.ensures
    (stays a.firsts.now a.seconds.now a.texts a.planted d _ a.page _ _ c.requires.sound c.requires.items c.requires.long (λ ts x. eject_other d (planted_of a.planted) ts x a.from (ne_eqb _ _ c.if-from-page.true)))

pub blank-requires : goal.blank-requires
blank-requires c =
    let a = c.args in
    let p = page_of a.page in let l = down_of a.layout.page in let t = planted_of a.planted in
    (record { sound = c.requires.sound; items = c.requires.items; short = omega arith; long = c.requires.long; names = c.requires.names }, subst Plain (sym c.left_of-held.ensures) (left_plain (ltb (down_of a.page.used + down_of c.rows_below-rows.result) l) a.from), omega (arith, c.rows_below-rows.ensures, rows_few p l t, c.requires.sound.limits.page_most))

pub returns : goal.returns
returns c =
    let a = c.args in
    let d = page_state a.layout a.page a.collected a.cells.now a.stack a.arena.now a.ends.now in
    let r = c.rows_below-rows in let h = c.left_of-held in
    same_work a.firsts.now a.seconds.now a.texts a.planted d _ (λ ts s. rule.blank (down_of r.result) (held_of ts h.result []) s) a.page _ _ _ _ c.blank.ensures
    (λ ts x. rw h.ensures (eject_is d (planted_of a.planted) ts x a.from (down_of r.result) _ (eq-eqb _ _ c.if-from-page.false) r.ensures))
