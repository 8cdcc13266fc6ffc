use Rattle.scan.specs.Output.Writes.{Put}
use Rattle.rules.specs.Escapes.{escaped}
use lib.ListN.{take}
use Rattle.scan.proofs.output.write_back.Given as goal

abbrev pub invariant-loop-byte : goal.invariant-loop-byte
invariant-loop-byte l = Put (escaped (take l.byte-index l.bytes)) l.initial.out l.written l.limit l.n l.out
