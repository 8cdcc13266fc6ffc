use mathlib.Core.Path.{◌≡◌}
use mathlib.Core.Bool.{true, false}
use Rattle.record_checks.specs.StateLimits.LimitChecks.{layered_to}
use Rattle.record_checks.proofs.state_limits.LimitWalks.{text_below}
use Rattle.record_checks.proofs.state_limits.is_layered.Given as goal

abbrev pub invariant-loop-i : goal.invariant-loop-i
invariant-loop-i l = (l.below ≡ text_below l.ends l.i) × (layered_to false l.ends l.i ≡ true)
