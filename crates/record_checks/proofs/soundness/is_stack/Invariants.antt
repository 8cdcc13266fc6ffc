use mathlib.Core.Path.{◌≡◌}
use mathlib.Core.Bool.{true}
use Rattle.texts.specs.Table.Table.{names_of}
use Rattle.record_checks.specs.Soundness.Checks.{are_frames}
use Rattle.record_checks.proofs.soundness.is_stack.Given as goal

abbrev pub invariant-loop-i : goal.invariant-loop-i
invariant-loop-i l = are_frames (names_of l.firsts l.seconds l.count) l.ends l.i ≡ true
