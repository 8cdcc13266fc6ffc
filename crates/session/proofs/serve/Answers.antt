use mathlib.Core.Path.{subst}
use Rattle.record.specs.Turns.{record_of}
use Rattle.session.specs.Limits.{EndsWith}
use Rattle.session.proofs.Limits.{call_ended, call_served}
use Rattle.session.proofs.serve.Goals as goal

pub run-requires : goal.run-requires
run-requires c =
    c.requires

pub returns-in-Some : goal.returns-in-Some
returns-in-Some c =
    let a = c.args in
    let e = subst (λ v. EndsWith v a.place.closing a.place.waiting) c.in-Some.is c.ended.ensures in
    call_ended (record_of a.place a.gathered.now a.cells.now a.row.now a.arena.now a.ends.now a.text_firsts.now a.text_seconds.now a.kinds.now a.lengths.now a.firsts.now a.seconds.now a.values.now a.steps.now) a.store.now a.block.now a.last a.out.now c.requires _ e.0 e.1

pub returns-in-None : goal.returns-in-None
returns-in-None c =
    let a = c.args in
    call_served (record_of a.place a.gathered.now a.cells.now a.row.now a.arena.now a.ends.now a.text_firsts.now a.text_seconds.now a.kinds.now a.lengths.now a.firsts.now a.seconds.now a.values.now a.steps.now) a.store.now a.block.now a.last a.out.now c.requires c.ended.result c.ended.ensures c.in-None.is _ _ _
    c.run.ensures
