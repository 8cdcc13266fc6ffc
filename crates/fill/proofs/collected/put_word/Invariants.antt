use Rattle.fill.proofs.collected.Writing.{Putting}
use Rattle.fill.proofs.collected.put_word.Given as goal

abbrev pub invariant-loop-byte : goal.invariant-loop-byte
invariant-loop-byte l = Putting l.part l.initial.buffer l.at l.buffer l.byte-index l.n
