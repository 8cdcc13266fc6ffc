use Rattle.record.specs.Turns.{record_of}
use Rattle.session.proofs.Limits.{call_turned}
use Rattle.session.proofs.call_parts.Goals as goal

pub returns-then-not-is_valid : goal.returns-then-not-is_valid
returns-then-not-is_valid c =
    let a = c.args in call_turned (record_of a.place a.gathered.now a.cells.now a.row.now a.arena.now a.ends.now a.text_firsts.now a.text_seconds.now a.kinds.now a.lengths.now a.firsts.now a.seconds.now a.values.now a.steps.now) a.store.now a.block.now a.last a.out.now (c.is_valid.ensures.no (c.if-not-is_valid.true))

pub serve-requires : goal.serve-requires
serve-requires c =
    c.is_valid.ensures.yes (c.if-not-is_valid.false)

pub returns : goal.returns
returns c =
    c.serve.ensures
