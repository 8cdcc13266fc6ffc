use Prim.Native.Nat.{ℕ, ◌<◌}
use mathlib.Core.Path.{◌≡◌}
use lib.ListN.{take, get_or}
use lib.Seq.{sets}
use Rattle.record_words.specs.Decoding.Words.{trap_words, TwoByteName, blank_trap}
use Rattle.record_words.proofs.encoding.put_planted.Given as goal

abbrev pub invariant-loop-i : goal.invariant-loop-i
invariant-loop-i l = (l.words ≡ sets l.initial.words 36 (trap_words (take l.i l.planted.traps))) × ((k : ℕ) → k < l.i → TwoByteName (get_or l.planted.traps k blank_trap).name)
