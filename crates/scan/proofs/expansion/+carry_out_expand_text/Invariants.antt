-- An escape of a text is below the text, and a string that it enters is below the escape. The invariant: what the rules make of the text is what they make of it from i on.
use Rattle.std.proofs.Common.{◌-◌, ◌*◌, ◌+◌, length}
use Rattle.scan.specs.Arguments.Around.{around}
use Rattle.scan.proofs.expansion.Driver.{Going}
use Rattle.scan.proofs.expansion.+carry_out_expand_text.Given as goal

abbrev pub decreases-carry_out : goal.decreases-carry_out
decreases-carry_out l = 2 * (8 - l.depth)

abbrev pub decreases-expand_text : goal.decreases-expand_text
decreases-expand_text l = 2 * (8 - l.depth) + 1

abbrev pub invariant-expand_text-loop-refusal : goal.invariant-expand_text-loop-refusal
invariant-expand_text-loop-refusal l =
    Going (around l.shown l.texts l.arguments l.ends l.given) l.mode l.text l.depth l.left
    l.initial.out l.written l.limit l.initial.registers l.registers l.i l.rest l.n l.out

abbrev pub decreases-expand_text-loop-refusal : goal.decreases-expand_text-loop-refusal
decreases-expand_text-loop-refusal l = length l.text - l.i
