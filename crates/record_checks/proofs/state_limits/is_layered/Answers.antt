-- `record_checks::state_limits::is_layered` meets its contract. The invariant: those below i lie as they may. Assumes nothing.
use Prim.Native.Nat.{◌+◌, ◌-◌}
use mathlib.Core.Path.{◌≡◌, refl, sym, ap, ◌∙◌}
use mathlib.Core.Bool.{Bool, true, false, ◌||◌}
use native.Mathlib.Omega.{arith}
use Rattle.input_stack.specs.declared.stack.Entry.{Entry}
use Rattle.page.specs.Springs.Held.{is_text}
use Rattle.record_checks.specs.StateLimits.LimitChecks.{layered_to}
use Rattle.record_checks.proofs.state_limits.LimitWalks.{layers_by, below_next, layers_none, layers_fail, layered_few}
use Rattle.record_checks.proofs.state_limits.is_layered.Goals as goal
use Rattle.record_checks.proofs.state_limits.is_layered.Goals.{After-is_text-text, else-not-text-via-then-not-text+else-not-below, else-not-text-via-else-not-text}

pub loop-i-init : goal.loop-i-init
loop-i-init c = (refl, layers_none c.args.ends.now)

-- those below i and the one at it, where it is a text or not
step : (c : After-is_text-text) → layered_to false c.args.ends.now (c.loop-i.i + 1) ≡ (c.is_text-text.result || c.loop-i.below)
step c = layers_by c.args.ends.now c.loop-i.i _ _ (c.is_text-text.ensures ∙ ap (λ (e : Entry). is_text e.what) c.entry_at.ensures) c.loop-i.invariant.0 c.loop-i.invariant.1

pub returns-then-not-below : goal.returns-then-not-below
returns-then-not-below c =
    let a = c.args in
    let e = step (goal.at.returns-then-not-below c).After-is_text-text in
    let t : (c.is_text-text.result || c.loop-i.below) ≡ false = rw c.if-not-text.true c.if-not-below.true in
    let z : c.loop-i.i + 1 + (a.stack.depth - (c.loop-i.i + 1)) ≡ a.stack.depth = omega arith in
    sym (layered_few a.stack a.ends.now c.if-stack-gt-STACK_ITEMS.false ∙ ap (layered_to false a.ends.now) (sym z) ∙ layers_fail a.ends.now (c.loop-i.i + 1) (a.stack.depth - (c.loop-i.i + 1)) (e ∙ t))

pub loop-i-preserved : goal.loop-i-preserved
loop-i-preserved c =
    let a = c.args in
    let e = step (goal.at.loop-i-preserved c).After-is_text-text in
    let t : (c.is_text-text.result || c.loop-i.below) ≡ true = elim c.else-not-text.branch [
      | else-not-text-via-then-not-text+else-not-below w ↦ either _ _ w.if-not-below.false
      | else-not-text-via-else-not-text w ↦ rw w.if-not-text.false
    ] in
    (c.is_text-text.ensures ∙ ap (λ (x : Entry). is_text x.what) c.entry_at.ensures ∙ sym (below_next a.ends.now c.loop-i.i), e ∙ t)
  where
    either : (s t : Bool) → t ≡ true → (s || t) ≡ true
    either true t h = refl
    either false t h = h

pub returns : goal.returns
returns c =
    let a = c.args in
    let z : c.loop-i.i ≡ a.stack.depth = omega arith in
    sym (layered_few a.stack a.ends.now c.if-stack-gt-STACK_ITEMS.false ∙ ap (layered_to false a.ends.now) (sym z) ∙ c.loop-i.invariant.1)
