-- `rockavine_c::rockavine_call_parts` meets its contract, in each of its three ways out. Assumes nothing.
use Rattle.rockavine_c.proofs.Again.{from_turned, from_served}
use Rattle.rockavine_c.proofs.Inside.{may_append, from_inside}
use Rattle.rockavine_c.proofs.rockavine_call_parts.Goals as goal

pub is_valid-requires : goal.is_valid-requires
is_valid-requires c =
    rw c.place-place.ensures.0 c.requires

pub returns-then-not-is_valid : goal.returns-then-not-is_valid
returns-then-not-is_valid c =
    let a = c.args in
    let l = c.place-place in
    from_turned a.words.now a.gathered.now a.cells.now a.row.now a.arena.now a.ends.now a.text_firsts.now a.text_seconds.now a.kinds.now a.lengths.now a.firsts.now a.seconds.now a.values.now a.steps.now a.store.now a.block.now a.last a.out.now l.result l.ensures.0 (c.is_valid.ensures.no (c.if-not-is_valid.true))

pub take_block-requires : goal.take_block-requires
take_block-requires c =
    let a = c.args in
    let l = c.place-place in
    may_append a.words.now a.gathered.now a.cells.now a.row.now a.arena.now a.ends.now a.text_firsts.now a.text_seconds.now a.kinds.now a.lengths.now a.firsts.now a.seconds.now a.values.now a.steps.now a.store.now a.block.now a.last a.out.now l.result l.ensures.0 c.is_last.result c.is_last.ensures (c.is_valid.ensures.yes (c.if-not-is_valid.false)) (c.is_inside.ensures.yes c.if-is_inside.true)

pub returns-then-is_inside : goal.returns-then-is_inside
returns-then-is_inside c =
    let a = c.args in
    let l = c.place-place in
    from_inside a.words.now a.gathered.now a.cells.now a.row.now a.arena.now a.ends.now a.text_firsts.now a.text_seconds.now a.kinds.now a.lengths.now a.firsts.now a.seconds.now a.values.now a.steps.now a.store.now a.block.now a.last a.out.now l.result l.ensures.0 c.is_last.result c.is_last.ensures (c.is_valid.ensures.yes (c.if-not-is_valid.false)) (c.is_inside.ensures.yes c.if-is_inside.true) _ _ c.take_block.ensures

pub serve-ran-requires : goal.serve-ran-requires
serve-ran-requires c =
    c.is_valid.ensures.yes (c.if-not-is_valid.false)

pub returns : goal.returns
returns c =
    let a = c.args in
    let y = c.serve-ran in
    let l = c.place-place in
    from_served a.words.now a.gathered.now a.cells.now a.row.now a.arena.now a.ends.now a.text_firsts.now a.text_seconds.now a.kinds.now a.lengths.now a.firsts.now a.seconds.now a.values.now a.steps.now a.store.now a.block.now a.last a.out.now l.result l.ensures.0 c.is_last-2.result c.is_last-2.ensures y.result _ _ _ _ _ _ _ _ _ _ _ _ _ _ _ _ _ _ c.code_of.ensures c.number_of.ensures c.line_of.ensures (c.is_valid.ensures.yes (c.if-not-is_valid.false)) y.ensures l.ensures.1 _ c.write_place.ensures
