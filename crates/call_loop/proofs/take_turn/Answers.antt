use native.Mathlib.Omega.{arith}
use mathlib.Core.Path.{refl}
use Rattle.record.specs.Turns.{record_of, resting}
use Rattle.record.proofs.Leading.{turn_work, turn_take, turn_end, stops_input, turn_goes, turn_stops, is_busy, is_asking}
use Rattle.call_loop.proofs.take_turn.Goals as goal

pub work-requires : goal.work-requires
work-requires c =
    let a = c.args in is_busy a.block.now a.taken a.status a.source a.gathered.now a.cells.now a.row.now a.arena.now a.ends.now a.text_firsts.now a.text_seconds.now a.kinds.now a.lengths.now a.firsts.now a.seconds.now a.values.now a.steps.now a.store.now c.requires c.has_work.result c.has_work.ensures c.if-has_work.true

pub returns-then-has_work : goal.returns-then-has_work
returns-then-has_work c =
    let a = c.args in
    let y = c.work in
    turn_stops y.result.stop y.ensures.1 a.block.now a.last (record_of (resting a.status a.source) a.gathered.now a.cells.now a.row.now a.arena.now a.ends.now a.text_firsts.now a.text_seconds.now a.kinds.now a.lengths.now a.firsts.now a.seconds.now a.values.now a.steps.now) a.store.now a.taken _ _ _ y.ensures.2
    (turn_work a.block.now a.last (record_of (resting a.status a.source) a.gathered.now a.cells.now a.row.now a.arena.now a.ends.now a.text_firsts.now a.text_seconds.now a.kinds.now a.lengths.now a.firsts.now a.seconds.now a.values.now a.steps.now) a.store.now a.taken c.requires refl _ _ (y.ensures.0 a.gathered.now c.requires.valid.formed.gathered_long))

pub returns-then-taken-block : goal.returns-then-taken-block
returns-then-taken-block c =
    let a = c.args in
    let y = c.take_line in
    turn_goes y.result.stop y.ensures.1 a.block.now a.last (record_of (resting a.status a.source) a.gathered.now a.cells.now a.row.now a.arena.now a.ends.now a.text_firsts.now a.text_seconds.now a.kinds.now a.lengths.now a.firsts.now a.seconds.now a.values.now a.steps.now) a.store.now a.taken _ _ _
    (turn_take a.block.now a.last (record_of (resting a.status a.source) a.gathered.now a.cells.now a.row.now a.arena.now a.ends.now a.text_firsts.now a.text_seconds.now a.kinds.now a.lengths.now a.firsts.now a.seconds.now a.values.now a.steps.now) a.store.now a.taken c.requires refl _ _ _ y.ensures.0)

pub returns-then-last : goal.returns-then-last
returns-then-last c =
    let a = c.args in
    let y = c.read_end in
    turn_stops y.result.stop y.ensures.1 a.block.now a.last (record_of (resting a.status a.source) a.gathered.now a.cells.now a.row.now a.arena.now a.ends.now a.text_firsts.now a.text_seconds.now a.kinds.now a.lengths.now a.firsts.now a.seconds.now a.values.now a.steps.now) a.store.now a.taken _ _ _ y.ensures.2
    (turn_end a.block.now a.last (record_of (resting a.status a.source) a.gathered.now a.cells.now a.row.now a.arena.now a.ends.now a.text_firsts.now a.text_seconds.now a.kinds.now a.lengths.now a.firsts.now a.seconds.now a.values.now a.steps.now) a.store.now a.taken c.requires refl
    (is_asking a.block.now a.taken a.status a.source a.gathered.now a.cells.now a.row.now a.arena.now a.ends.now a.text_firsts.now a.text_seconds.now a.kinds.now a.lengths.now a.firsts.now a.seconds.now a.values.now a.steps.now a.store.now c.requires c.has_work.result c.has_work.ensures c.if-has_work.false)
    c.if-last.true (omega (arith, c.requires.within, c.if-taken-block.false)) _ _ y.ensures.0)

pub returns : goal.returns
returns c =
    let a = c.args in
    stops_input a.block.now a.last (record_of (resting a.status a.source) a.gathered.now a.cells.now a.row.now a.arena.now a.ends.now a.text_firsts.now a.text_seconds.now a.kinds.now a.lengths.now a.firsts.now a.seconds.now a.values.now a.steps.now) a.store.now a.taken c.requires refl
    (is_asking a.block.now a.taken a.status a.source a.gathered.now a.cells.now a.row.now a.arena.now a.ends.now a.text_firsts.now a.text_seconds.now a.kinds.now a.lengths.now a.firsts.now a.seconds.now a.values.now a.steps.now a.store.now c.requires c.has_work.result c.has_work.ensures c.if-has_work.false)
    c.if-last.false (omega (arith, c.requires.within, c.if-taken-block.false))
