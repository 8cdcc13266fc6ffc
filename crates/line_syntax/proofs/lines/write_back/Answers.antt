-- `line_syntax::lines::write_back` meets its contract. The invariant: the bytes up to the index are written back. Assumes nothing.
use native.Mathlib.Omega.{arith}
use Rattle.rules.specs.Escapes.{escaped}
use Rattle.line_syntax.proofs.lines.BackLaws.{put_none, back_room, back_again, back_whole}
use Rattle.line_syntax.proofs.lines.write_back.Goals as goal

pub loop-byte-init : goal.loop-byte-init
unfolding escaped
loop-byte-init c = put_none _ 0 c.requires.1

pub put_back-n-requires : goal.put_back-n-requires
put_back-n-requires c = back_room c.args.bytes.now c.loop-byte.byte-index c.loop-byte-test.true c.requires.0 c.loop-byte.invariant

pub loop-byte-preserved : goal.loop-byte-preserved
loop-byte-preserved c = back_again c.args.bytes.now c.loop-byte.byte-index c.loop-byte-test.true c.loop-byte.invariant c.put_back-n.ensures

pub returns : goal.returns
returns c = back_whole c.args.bytes.now c.loop-byte.byte-index (omega arith) c.requires.0 c.loop-byte.invariant
