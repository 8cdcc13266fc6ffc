use Rattle.record.specs.Turns.{record_of, core_of, weight}
use Rattle.record.proofs.Going.{Going}
use Rattle.call_loop.proofs.run.Given as goal

abbrev pub invariant-loop-waiting : goal.invariant-loop-waiting
invariant-loop-waiting l =
    Going (record_of (core_of l.initial.status l.initial.source l.initial.waiting l.initial.closing) l.initial.gathered l.initial.cells l.initial.row l.initial.arena l.initial.ends l.initial.text_firsts l.initial.text_seconds l.initial.kinds l.initial.lengths l.initial.firsts l.initial.seconds l.initial.values l.initial.steps) l.initial.store l.block l.last l.initial.out (record_of (core_of l.status l.source l.waiting l.closing) l.gathered l.cells l.row l.arena l.ends l.text_firsts l.text_seconds l.kinds l.lengths l.firsts l.seconds l.values l.steps) l.store l.taken l.written l.out

abbrev pub decreases-loop-waiting : goal.decreases-loop-waiting
decreases-loop-waiting l =
    weight l.block (record_of (core_of l.status l.source l.waiting l.closing) l.gathered l.cells l.row l.arena l.ends l.text_firsts l.text_seconds l.kinds l.lengths l.firsts l.seconds l.values l.steps) l.store l.taken
