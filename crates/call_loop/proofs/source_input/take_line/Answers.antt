use native.Mathlib.Omega.{arith}
use mathlib.Core.Path.{ap, ◌∙◌}
use Rattle.fill.proofs.words.Parts.{part_zero}
use Rattle.record.specs.Turns.{record_of, resting, core_in}
use Rattle.record.proofs.Taking.{may_deal_ended, more_taken, refused_taken, ended_taken}
use Rattle.call_loop.proofs.source_input.take_line.Goals as goal

pub deal_line-requires : goal.deal_line-requires
deal_line-requires c =
    let a = c.args in
    let d = c.gather-got in
    may_deal_ended (resting a.status a.source) a.gathered.now a.cells.now a.row.now a.arena.now a.ends.now a.text_firsts.now a.text_seconds.now a.kinds.now a.lengths.now a.firsts.now a.seconds.now a.values.now a.steps.now a.store.now c.requires.0 a.block.now a.taken d.result _ d.ensures c.in-Ended.is _ (c.slice.ensures ∙ part_zero _ _) c.emptied.result c.emptied.ensures

pub returns-in-More : goal.returns-in-More
returns-in-More c =
    let a = c.args in
    let d = c.gather-got in
    let e = c.turn_after.ensures in (
      more_taken (resting a.status a.source) a.gathered.now a.cells.now a.row.now a.arena.now a.ends.now a.text_firsts.now a.text_seconds.now a.kinds.now a.lengths.now a.firsts.now a.seconds.now a.values.now a.steps.now a.store.now c.requires.0 a.block.now a.taken d.result _ d.ensures c.in-More.is
          (core_in c.turn_after.result) (ap core_in e) _ (ap (λ t. t.taken) e),
      ap (λ t. t.stop) e,
    )

pub returns-in-Refused : goal.returns-in-Refused
returns-in-Refused c =
    let a = c.args in
    let d = c.gather-got in
    let e = rw c.number.ensures at c.turn_after-in-Refused.ensures in (
      refused_taken (resting a.status a.source) a.gathered.now a.cells.now a.row.now a.arena.now a.ends.now a.text_firsts.now a.text_seconds.now a.kinds.now a.lengths.now a.firsts.now a.seconds.now a.values.now a.steps.now a.store.now c.requires.0 a.block.now a.taken d.result _ d.ensures _ c.in-Refused.is
          (core_in c.turn_after-in-Refused.result) (ap core_in e) _ (ap (λ t. t.taken) e),
      ap (λ t. t.stop) e,
    )

pub returns-in-Ended : goal.returns-in-Ended
returns-in-Ended c =
    let a = c.args in
    let d = c.gather-got in
    let y = c.deal_line in (
      ended_taken (resting a.status a.source) a.gathered.now a.cells.now a.row.now a.arena.now a.ends.now a.text_firsts.now a.text_seconds.now a.kinds.now a.lengths.now a.firsts.now a.seconds.now a.values.now a.steps.now a.store.now c.requires.0 a.block.now a.taken d.result _ d.ensures c.in-Ended.is _ (c.slice.ensures ∙ part_zero _ _) c.emptied.result c.emptied.ensures
          (λ k. record_of (core_in y.result) k _ _ _ _ _ _ _ _ _ _ _ _) _ y.ensures.0 _ y.ensures.2,
      y.ensures.1,
    )
