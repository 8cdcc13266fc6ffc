-- `scan::output::write_back` meets its contract. The invariant: the bytes before this one are written, with their escapes. Assumes nothing.
use Rattle.scan.proofs.output.Buffers.{put_none, back_again, back_full}
use Rattle.std.proofs.lemmas.Result.{err_from_is_err_and}
use Rattle.rules.specs.Escapes.{escaped}
use native.Mathlib.Omega.{arith}
use Rattle.scan.proofs.output.write_back.Goals as goal

pub loop-byte-init : goal.loop-byte-init
unfolding escaped
loop-byte-init c = put_none c.requires

pub returns-in_err-n : goal.returns-in_err-n
returns-in_err-n c =
    let p = err_from_is_err_and c.from_residual.result c.from_residual.ensures.1 in
    let f = rw c.in_err-n.was at c.put_escaped.ensures in
    rw (p.1, p.2) (f.0, back_full c.args.bytes.now c.loop-byte.byte-index (omega arith) c.loop-byte.invariant f.1, f.2)

pub loop-byte-preserved : goal.loop-byte-preserved
loop-byte-preserved c = back_again c.args.bytes.now c.loop-byte.byte-index (omega arith) c.loop-byte.invariant (rw c.in_ok-n.was at c.put_escaped.ensures)
