-- `composition::page_rows::skip` meets its contract. Assumes nothing.
use mathlib.Core.Path.{sym, ◌∙◌}
use mathlib.Core.List.{[]}
use native.Mathlib.Omega.{arith}
use Rattle.measure.specs.Counts.{down_of}
use Rattle.traps.specs.Table.Table.{planted_of}
use Rattle.page.specs.Position.Landing.{page_of, rows_to_trap}
use Rattle.rules.specs.Rows as rule
use Rattle.composition.specs.PageRows.PageState.{page_state}
use Rattle.composition.proofs.page_rows.Work.{rows_few, blanks_few, spaced_some, skip_is, stays, same_work}
use Rattle.composition.proofs.page_rows.skip.Goals as goal

pub returns-then-down-eq0 : goal.returns-then-down-eq0
returns-then-down-eq0 c =
    let a = c.args in
    let d = page_state a.layout a.page a.collected a.cells.now a.stack a.arena.now a.ends.now in
    let e = sym c.if-down-eq0.true ∙ c.down.ensures ∙ c.blanks-rows.ensures in
    rw c.stay.ensures
    (stays a.firsts.now a.seconds.now a.texts a.planted d _ a.page _ _ c.requires.sound c.requires.items c.requires.long (λ ts x. skip_is d (planted_of a.planted) ts x a.count.0 0 e c.requires.sound.above))

pub blank-requires : goal.blank-requires
blank-requires c =
    let a = c.args in
    let p = page_of a.page in let l = down_of a.layout.page in let t = planted_of a.planted in
    (record { sound = c.requires.sound; items = c.requires.items; short = omega arith; long = c.requires.long; names = c.requires.names }, tt, omega (arith, c.blanks-rows.ensures, blanks_few a.count.0 (rows_to_trap p l t), rows_few p l t, c.requires.sound.limits.page_most))

pub returns : goal.returns
returns c =
    let a = c.args in
    let d = page_state a.layout a.page a.collected a.cells.now a.stack a.arena.now a.ends.now in
    let b = c.blanks-rows in let r = down_of b.result in
    same_work a.firsts.now a.seconds.now a.texts a.planted d _ (λ ts s. rule.blank r [] s) a.page _ _ _ _ c.blank.ensures
    (λ ts x. spaced_some r _ (omega (arith, c.if-down-eq0.false, c.down.ensures)) ∙ skip_is d (planted_of a.planted) ts x a.count.0 r b.ensures c.requires.sound.above)
