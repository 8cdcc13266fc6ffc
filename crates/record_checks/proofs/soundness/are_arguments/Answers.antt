-- `record_checks::soundness::are_arguments` meets its contract. The invariant: the arguments are in order if those from this place on are, behind the place `from`. Assumes nothing.
use Prim.Native.Nat.{◌+◌, ◌*◌, ◌-◌}
use mathlib.Core.Path.{refl, sym, ap, ◌∙◌}
use lib.ListN.{take, drop}
use Rattle.record_checks.specs.Soundness.Checks.{ends_in_order}
use Rattle.record_checks.proofs.soundness.Walks.{given_is, order_before, order_past, order_on, order_end, arguments_few}
use Rattle.record_checks.proofs.soundness.are_arguments.Goals as goal
use Rattle.record_checks.proofs.soundness.are_arguments.Goals.{then-end-from-via-then-end-from, then-end-from-via-else-end-from+then-size-end}

pub loop-end-init : goal.loop-end-init
loop-end-init c =
    let a = c.args in
    arguments_few _ _ _ c.if-count-gt9.false ∙ ap (ends_in_order 0 a.size) (given_is a.ends.now (a.frame * 13 + 4) a.count c.from.result c.from.ensures c.if-count-gt9.false)

pub returns-then-end-from : goal.returns-then-end-from
returns-then-end-from c =
    let a = c.args in
    let l = c.loop-end in
    let given = take (a.frame * 13 + 4 + c.from.result - (a.frame * 13 + 4)) (drop (a.frame * 13 + 4) a.ends.now) in
    elim c.then-end-from.branch [
      | then-end-from-via-then-end-from w ↦ sym (l.invariant ∙ order_before l.from a.size given l.end-index _ c.loop-end-test.true refl w.if-end-from.true)
      | then-end-from-via-else-end-from+then-size-end w ↦ sym (l.invariant ∙ order_past l.from a.size given l.end-index _ c.loop-end-test.true refl w.if-end-from.false w.if-size-end.true)
    ]

pub loop-end-preserved : goal.loop-end-preserved
loop-end-preserved c =
    let a = c.args in
    let l = c.loop-end in
    let given = take (a.frame * 13 + 4 + c.from.result - (a.frame * 13 + 4)) (drop (a.frame * 13 + 4) a.ends.now) in
    l.invariant ∙ order_on l.from a.size given l.end-index _ c.loop-end-test.true refl c.if-end-from.false c.if-size-end.false

pub returns : goal.returns
returns c =
    let a = c.args in
    let l = c.loop-end in
    let given = take (a.frame * 13 + 4 + c.from.result - (a.frame * 13 + 4)) (drop (a.frame * 13 + 4) a.ends.now) in
    sym (l.invariant ∙ order_end l.from a.size given l.end-index c.loop-end-test.false)
