-- `composition::no_break_requests::decide` meets its contract. Assumes nothing.
use native.Mathlib.Omega.{arith}
use Rattle.std.specs.Prelude.{drop, true, false, Ok, Err}
use Rattle.composition.specs.PageRows.PageState.{page_state}
use Rattle.composition.proofs.page_rows.Work.{stays}
use Rattle.composition.proofs.no_break_requests.Follows.{all_from, if_none, if_holds, follows_on}
use Rattle.composition.proofs.no_break_requests.decide.Goals as goal

pub returns-then-places : goal.returns-then-places
returns-then-places c =
    let a = c.args in let b = c.requires.0 in
    let d = page_state a.layout a.page a.collected a.cells.now a.stack a.arena.now a.ends.now in
    rw c.stay.ensures
    (stays a.firsts.now a.seconds.now a.texts a.planted d _ a.page _ a.row.now b.sound b.items b.long
    (λ ts x. if_none a.printer a.line.now _ c.condition_at-places.ensures _ c.if-places.true))

pub returns-in-Ok-true : goal.returns-in-Ok-true
returns-in-Ok-true c =
    let a = c.args in let b = c.requires.0 in
    let p = c.condition_at-places in
    rw c.stay-in-Ok-true.ensures
    (follows_on a.firsts.now a.seconds.now a.texts a.planted a.layout a.page a.collected a.cells.now a.stack a.arena.now a.ends.now a.row.now b.sound b.items b.long
    _ (drop p.result.rest a.line.now) _ _ _
    (rw (all_from a.line.now p.result.rest) at c.follow-over.ensures)
    (λ ts x. if_holds a.printer a.line.now _ p.ensures _ (Ok true) (rw (c.in-Ok-true.is, c.in-Ok-true.field-0-test) at c.holds.ensures) (omega (arith, p.ensures.order, c.if-places.false))))

pub returns-in-Ok-false : goal.returns-in-Ok-false
returns-in-Ok-false c =
    let a = c.args in let b = c.requires.0 in
    let d = page_state a.layout a.page a.collected a.cells.now a.stack a.arena.now a.ends.now in
    let p = c.condition_at-places in
    rw c.stay-in-Ok-false.ensures
    (stays a.firsts.now a.seconds.now a.texts a.planted d _ a.page _ a.row.now b.sound b.items b.long
    (λ ts x. if_holds a.printer a.line.now _ p.ensures _ (Ok false) (rw (c.in-Ok-false.is, c.in-Ok-false.field-0-test) at c.holds.ensures) (omega (arith, p.ensures.order, c.if-places.false))))

pub returns-in-Err : goal.returns-in-Err
returns-in-Err c =
    let a = c.args in let b = c.requires.0 in
    let d = page_state a.layout a.page a.collected a.cells.now a.stack a.arena.now a.ends.now in
    let p = c.condition_at-places in
    rw (c.stay-in-Err.ensures, c.number.ensures)
    (stays a.firsts.now a.seconds.now a.texts a.planted d _ a.page _ a.row.now b.sound b.items b.long
    (λ ts x. if_holds a.printer a.line.now _ p.ensures _ (Err c.in-Err.refusal) (rw c.in-Err.is at c.holds.ensures) (omega (arith, p.ensures.order, c.if-places.false))))
