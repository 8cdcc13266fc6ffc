-- `call_loop::run` meets its contract. The invariant: what the whole call does is what was taken and written so far, and then what it does from the record here on.
-- Assumes nothing.
use mathlib.Core.Path.{sym, ◌∙◌, subst}
use Rattle.record.specs.declared.Record.{Record}
use Rattle.record.specs.Turns.{record_of, core_of, core_in, ClosedIs}
use Rattle.record.proofs.Going.{go_start, may_write, same_out, ends_full, ends_closed, turns_on, ends_with, goes_on, goes_less}
use Rattle.call_loop.proofs.run.Goals as goal
use Rattle.call_loop.proofs.run.Goals.{At-loop-waiting, Start}

-- the record at the call, and the one here
abbrev first : Start → Record
first s = record_of s.args.start s.args.gathered.now s.args.cells.now s.args.row.now s.args.arena.now s.args.ends.now s.args.text_firsts.now s.args.text_seconds.now s.args.kinds.now s.args.lengths.now s.args.firsts.now s.args.seconds.now s.args.values.now s.args.steps.now

abbrev here : At-loop-waiting → Record
here l = record_of (core_of l.loop-waiting.status l.loop-waiting.source l.loop-waiting.waiting l.loop-waiting.closing) l.loop-waiting.gathered l.loop-waiting.cells l.loop-waiting.row l.loop-waiting.arena l.loop-waiting.ends l.loop-waiting.text_firsts l.loop-waiting.text_seconds l.loop-waiting.kinds l.loop-waiting.lengths l.loop-waiting.firsts l.loop-waiting.seconds l.loop-waiting.values l.loop-waiting.steps

pub loop-waiting-init : goal.loop-waiting-init
loop-waiting-init c = go_start (first (goal.at.loop-waiting-init c).Start) c.args.store.now c.args.block.now c.args.last c.args.out.now c.requires

pub write_out-wrote-requires : goal.write_out-wrote-requires
write_out-wrote-requires c = may_write (first (goal.at.write_out-wrote-requires c).Start) c.args.store.now c.args.block.now c.args.last c.args.out.now (here (goal.at.write_out-wrote-requires c).At-loop-waiting) c.loop-waiting.store c.loop-waiting.taken c.loop-waiting.written c.loop-waiting.out c.loop-waiting.invariant

pub shape_of-out-then-waiting : goal.shape_of-out-then-waiting
shape_of-out-then-waiting c = same_out (first (goal.at.shape_of-out-then-waiting c).Start) c.args.store.now c.args.block.now c.args.last c.args.out.now (here (goal.at.shape_of-out-then-waiting c).At-loop-waiting) c.loop-waiting.store c.loop-waiting.taken c.loop-waiting.written c.loop-waiting.out c.loop-waiting.invariant c.write_out-wrote.result _ c.write_out-wrote.ensures

pub shape_of-store-then-waiting : goal.shape_of-store-then-waiting
shape_of-store-then-waiting c = c.loop-waiting.invariant.valid.formed.sound.store ∙ sym c.requires.formed.sound.store

pub returns-then-waiting : goal.returns-then-waiting
returns-then-waiting c = let e = c.ran.ensures in rw (e.0, e.1, e.2, e.3) (ends_full (first (goal.at.returns-then-waiting c).Start) c.args.store.now c.args.block.now c.args.last c.args.out.now (here (goal.at.returns-then-waiting c).At-loop-waiting) c.loop-waiting.store c.loop-waiting.taken c.loop-waiting.written c.loop-waiting.out c.loop-waiting.invariant c.write_out-wrote.result _ c.write_out-wrote.ensures c.if-waiting.true)

pub shape_of-out-in-Some : goal.shape_of-out-in-Some
shape_of-out-in-Some c = same_out (first (goal.at.shape_of-out-in-Some c).Start) c.args.store.now c.args.block.now c.args.last c.args.out.now (here (goal.at.shape_of-out-in-Some c).At-loop-waiting) c.loop-waiting.store c.loop-waiting.taken c.loop-waiting.written c.loop-waiting.out c.loop-waiting.invariant c.write_out-wrote.result _ c.write_out-wrote.ensures

pub shape_of-store-in-Some : goal.shape_of-store-in-Some
shape_of-store-in-Some c = c.loop-waiting.invariant.valid.formed.sound.store ∙ sym c.requires.formed.sound.store

pub returns-in-Some : goal.returns-in-Some
returns-in-Some c = let e = c.ran-in-Some.ensures in rw (e.0, e.1, e.2, e.3) (ends_closed (first (goal.at.returns-in-Some c).Start) c.args.store.now c.args.block.now c.args.last c.args.out.now (here (goal.at.returns-in-Some c).At-loop-waiting) c.loop-waiting.store c.loop-waiting.taken c.loop-waiting.written c.loop-waiting.out c.loop-waiting.invariant c.write_out-wrote.result _ c.write_out-wrote.ensures c.if-waiting.false _ (subst (λ v. ClosedIs v c.loop-waiting.closing) c.in-Some.is c.closed.ensures))

pub take_turn-turned-requires : goal.take_turn-turned-requires
take_turn-turned-requires c = turns_on (first (goal.at.take_turn-turned-requires c).Start) c.args.store.now c.args.block.now c.args.last c.args.out.now (here (goal.at.take_turn-turned-requires c).At-loop-waiting) c.loop-waiting.store c.loop-waiting.taken c.loop-waiting.written c.loop-waiting.out c.loop-waiting.invariant c.write_out-wrote.result _ c.write_out-wrote.ensures c.if-waiting.false (subst (λ v. ClosedIs v c.loop-waiting.closing) c.in_default.is c.closed.ensures)

pub shape_of-out-in-Some-stop : goal.shape_of-out-in-Some-stop
shape_of-out-in-Some-stop c = same_out (first (goal.at.shape_of-out-in-Some-stop c).Start) c.args.store.now c.args.block.now c.args.last c.args.out.now (here (goal.at.shape_of-out-in-Some-stop c).At-loop-waiting) c.loop-waiting.store c.loop-waiting.taken c.loop-waiting.written c.loop-waiting.out c.loop-waiting.invariant c.write_out-wrote.result _ c.write_out-wrote.ensures

pub shape_of-store-in-Some-stop : goal.shape_of-store-in-Some-stop
shape_of-store-in-Some-stop c = (ends_with (first (goal.at.shape_of-store-in-Some-stop c).Start) c.args.store.now c.args.block.now c.args.last c.args.out.now (here (goal.at.shape_of-store-in-Some-stop c).At-loop-waiting) c.loop-waiting.store c.loop-waiting.taken c.loop-waiting.written c.loop-waiting.out c.loop-waiting.invariant c.write_out-wrote.result _ c.write_out-wrote.ensures c.if-waiting.false (subst (λ v. ClosedIs v c.loop-waiting.closing) c.in_default.is c.closed.ensures) c.take_turn-turned.result.stop (record_of (core_in c.take_turn-turned.result) _ _ _ _ _ _ _ _ _ _ _ _ _) _ c.take_turn-turned.result.taken c.take_turn-turned.ensures _ c.in-Some-stop.is).does.valid.formed.sound.store ∙ sym c.requires.formed.sound.store

pub returns-in-Some-stop : goal.returns-in-Some-stop
returns-in-Some-stop c = let e = c.ran-in-Some-stop.ensures in rw (e.0, e.1, e.2, e.3) (ends_with (first (goal.at.returns-in-Some-stop c).Start) c.args.store.now c.args.block.now c.args.last c.args.out.now (here (goal.at.returns-in-Some-stop c).At-loop-waiting) c.loop-waiting.store c.loop-waiting.taken c.loop-waiting.written c.loop-waiting.out c.loop-waiting.invariant c.write_out-wrote.result _ c.write_out-wrote.ensures c.if-waiting.false (subst (λ v. ClosedIs v c.loop-waiting.closing) c.in_default.is c.closed.ensures) c.take_turn-turned.result.stop (record_of (core_in c.take_turn-turned.result) _ _ _ _ _ _ _ _ _ _ _ _ _) _ c.take_turn-turned.result.taken c.take_turn-turned.ensures _ c.in-Some-stop.is)

pub loop-waiting-smaller : goal.loop-waiting-smaller
loop-waiting-smaller c = goes_less (first (goal.at.loop-waiting-smaller c).Start) c.args.store.now c.args.block.now c.args.last c.args.out.now (here (goal.at.loop-waiting-smaller c).At-loop-waiting) c.loop-waiting.store c.loop-waiting.taken c.loop-waiting.written c.loop-waiting.out c.loop-waiting.invariant c.write_out-wrote.result _ c.write_out-wrote.ensures c.if-waiting.false (subst (λ v. ClosedIs v c.loop-waiting.closing) c.in_default.is c.closed.ensures) c.take_turn-turned.result.stop (record_of (core_in c.take_turn-turned.result) _ _ _ _ _ _ _ _ _ _ _ _ _) _ c.take_turn-turned.result.taken c.take_turn-turned.ensures c.in_default-stop.is

pub loop-waiting-preserved : goal.loop-waiting-preserved
loop-waiting-preserved c = goes_on (first (goal.at.loop-waiting-preserved c).Start) c.args.store.now c.args.block.now c.args.last c.args.out.now (here (goal.at.loop-waiting-preserved c).At-loop-waiting) c.loop-waiting.store c.loop-waiting.taken c.loop-waiting.written c.loop-waiting.out c.loop-waiting.invariant c.write_out-wrote.result _ c.write_out-wrote.ensures c.if-waiting.false (subst (λ v. ClosedIs v c.loop-waiting.closing) c.in_default.is c.closed.ensures) c.take_turn-turned.result.stop (record_of (core_in c.take_turn-turned.result) _ _ _ _ _ _ _ _ _ _ _ _ _) _ c.take_turn-turned.result.taken c.take_turn-turned.ensures c.in_default-stop.is
