use native.Mathlib.Omega.{arith}
use mathlib.Core.Path.{ap, ◌∙◌}
use mathlib.Core.Bool.{true}
use lib.ListN.{take}
use lib.Seq.{length-take-le}
use Rattle.fill.proofs.words.Parts.{part_zero}
use Rattle.page.specs.declared.springs.Way.TheVariants as way
use Rattle.record.specs.Turns.{resting, core_in, core_after}
use Rattle.record.proofs.Taking.{may_deal, end_stands, end_dealt}
use Rattle.call_loop.proofs.source_input.read_end.Goals as goal

pub returns-then-source-eq0 : goal.returns-then-source-eq0
returns-then-source-eq0 c =
    let a = c.args in
    let e = c.turn_after.ensures in (
      end_stands (resting a.status a.source) a.gathered.now a.cells.now a.row.now a.arena.now a.ends.now a.text_firsts.now a.text_seconds.now a.kinds.now a.lengths.now a.firsts.now a.seconds.now a.values.now a.steps.now a.store.now c.requires (core_in c.turn_after.result)
          (ap core_in e ∙ ap (λ v. core_after a.status v way.On 0) c.emptied-after.ensures) c.if-source-eq0.true,
      ap (λ t. t.stop) e,
      ap (λ t. t.taken) e,
    )

pub deal_line-requires : goal.deal_line-requires
deal_line-requires c =
    let a = c.args in
    let h = c.requires in
    let l = h.formed in
    rw (c.emptied-after.ensures, c.slice.ensures ∙ part_zero _ _)
    (may_deal (resting a.status a.source) a.gathered.now a.cells.now a.row.now a.arena.now a.ends.now a.text_firsts.now a.text_seconds.now a.kinds.now a.lengths.now a.firsts.now a.seconds.now a.values.now a.steps.now a.store.now h a.source true (take a.source.length a.gathered.now) l.numbered l.counted
    (rw (length-take-le a.source.length a.gathered.now (omega (arith, l.short, l.gathered_long))) l.short))

pub returns : goal.returns
returns c =
    let a = c.args in
    let h = c.requires in
    let d = c.deal_line.ensures in
    let w = d.0 a.gathered.now h.formed.gathered_long in
    (end_dealt (resting a.status a.source) a.gathered.now a.cells.now a.row.now a.arena.now a.ends.now a.text_firsts.now a.text_seconds.now a.kinds.now a.lengths.now a.firsts.now a.seconds.now a.values.now a.steps.now a.store.now h (omega (arith, c.if-source-eq0.false)) _ _ (rw (c.emptied-after.ensures, c.slice.ensures ∙ part_zero _ _) at w), d.1, d.2)
