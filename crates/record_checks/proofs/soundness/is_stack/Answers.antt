-- `record_checks::soundness::is_stack` meets its contract. The invariant: the frames below i keep to their limits. Assumes nothing.
use Prim.Native.Nat.{◌+◌, ◌-◌, ◌≤◌, ◌*◌}
use mathlib.Core.Path.{◌≡◌, sym, ap, ◌∙◌}
use mathlib.Core.Bool.{true, false}
use native.Mathlib.Omega.{arith}
use lib.ListN.{take, drop}
use Rattle.texts.specs.Table.Table.{names_of}
use Rattle.input_stack.specs.declared.stack.Entry.{Entry}
use Rattle.record_checks.specs.Soundness.Checks.{are_frames, is_stack, is_frame}
use Rattle.record_checks.proofs.soundness.Walks.{frames_by, frames_none, frames_fail, depth_most, stack_by}
use Rattle.record_checks.proofs.soundness.is_stack.Goals as goal
use Rattle.record_checks.proofs.soundness.is_stack.Goals.{Else-not-is_depth, After-is_frame}

pub returns-then-not-is_depth : goal.returns-then-not-is_depth
unfolding is_stack
returns-then-not-is_depth c = rw (sym c.is_depth.ensures ∙ c.if-not-is_depth.true)

-- at most 17 items
most : (c : Else-not-is_depth) → c.args.stack.depth ≤ 17
most c = depth_most c.args.stack c.args.ends.now (sym c.is_depth.ensures ∙ c.if-not-is_depth.false)

pub loop-i-init : goal.loop-i-init
loop-i-init c = frames_none _ c.args.ends.now

pub entry_at-entry-requires : goal.entry_at-entry-requires
entry_at-entry-requires c = omega (arith, most (goal.at.entry_at-entry-requires c).Else-not-is_depth)

pub is_frame-requires : goal.is_frame-requires
is_frame-requires c = (c.requires.0, c.requires.1, omega (arith, most (goal.at.is_frame-requires c).Else-not-is_depth))

-- the frames below i and the one at it
step : (c : After-is_frame) → are_frames (names_of c.args.firsts.now c.args.seconds.now c.args.count) c.args.ends.now (c.loop-i.i + 1) ≡ c.is_frame.result
step c =
    let a = c.args in
    frames_by (names_of a.firsts.now a.seconds.now a.count) a.ends.now c.loop-i.i _ (c.is_frame.ensures ∙ ap (λ (e : Entry). is_frame (names_of a.firsts.now a.seconds.now a.count) e (take 9 (drop (c.loop-i.i * 13 + 4) a.ends.now))) c.entry_at-entry.ensures) c.loop-i.invariant

pub returns-then-not-is_frame : goal.returns-then-not-is_frame
returns-then-not-is_frame c =
    let a = c.args in
    let ns = names_of a.firsts.now a.seconds.now a.count in
    let z : c.loop-i.i + 1 + (a.stack.depth - (c.loop-i.i + 1)) ≡ a.stack.depth = omega arith in
    stack_by ns a.stack a.ends.now false (sym c.is_depth.ensures ∙ c.if-not-is_depth.false)
    (ap (are_frames ns a.ends.now) (sym z) ∙ frames_fail ns a.ends.now (c.loop-i.i + 1) (a.stack.depth - (c.loop-i.i + 1)) (step (goal.at.returns-then-not-is_frame c).After-is_frame ∙ c.if-not-is_frame.true))

pub loop-i-preserved : goal.loop-i-preserved
loop-i-preserved c = step (goal.at.loop-i-preserved c).After-is_frame ∙ c.if-not-is_frame.false

pub returns : goal.returns
returns c =
    let a = c.args in
    let ns = names_of a.firsts.now a.seconds.now a.count in
    let z : c.loop-i.i ≡ a.stack.depth = omega arith in
    stack_by ns a.stack a.ends.now true (sym c.is_depth.ensures ∙ c.if-not-is_depth.false) (ap (are_frames ns a.ends.now) (sym z) ∙ c.loop-i.invariant)
