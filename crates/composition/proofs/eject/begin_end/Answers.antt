-- `composition::eject::begin_end` meets its contract. Assumes nothing.
use mathlib.Core.Bool.{true}
use native.Mathlib.Omega.{arith}
use Rattle.traps.specs.Table.Table.{planted_of}
use Rattle.rules.specs.Rows as rule
use Rattle.composition.specs.PageRows.PageState.{page_state}
use Rattle.composition.proofs.page_rows.Work.{last_of, last_sound, end_is, end_done, end_ejects, stays, same_work}
use Rattle.composition.proofs.eject.begin_end.Goals as goal

pub returns-then-collected : goal.returns-then-collected
returns-then-collected c =
    let a = c.args in
    let d = page_state a.layout a.page a.collected a.cells.now a.stack a.arena.now a.ends.now in
    same_work a.firsts.now a.seconds.now a.texts a.planted d _ _ (last_of a.page) _ _ _ _ c.break_line.ensures
    (λ ts x. end_is d (planted_of a.planted) ts x true c.if-collected.true)

pub returns-then-down-eq0 : goal.returns-then-down-eq0
returns-then-down-eq0 c =
    let a = c.args in
    let d = page_state a.layout a.page a.collected a.cells.now a.stack a.arena.now a.ends.now in
    rw c.stay.ensures
    (stays a.firsts.now a.seconds.now a.texts a.planted d _ (last_of a.page) _ _ (last_sound a.planted d c.requires.sound) c.requires.items c.requires.long
    (λ ts x. end_done d (planted_of a.planted) ts x c.if-collected.false (omega (arith, c.down.ensures, c.if-down-eq0.true))))

pub returns : goal.returns
returns c =
    let a = c.args in
    let d = page_state a.layout a.page a.collected a.cells.now a.stack a.arena.now a.ends.now in
    same_work a.firsts.now a.seconds.now a.texts a.planted d _ (λ ts s. rule.eject_last s) (last_of a.page) _ _ _ _ c.eject_last.ensures
    (λ ts x. end_ejects d (planted_of a.planted) ts x c.if-collected.false (omega (arith, c.down.ensures, c.if-down-eq0.false)))
