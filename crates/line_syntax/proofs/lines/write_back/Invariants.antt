use lib.ListN.{take}
use Rattle.rules.specs.Escapes.{escaped}
use Rattle.line_syntax.specs.Lines.Backs.{PutBack}
use Rattle.line_syntax.proofs.lines.write_back.Given as goal

abbrev pub invariant-loop-byte : goal.invariant-loop-byte
invariant-loop-byte l = PutBack (escaped (take l.byte-index l.bytes)) l.initial.out 0 l.n l.out
