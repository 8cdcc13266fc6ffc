-- `scan::expansion::next_escape` meets its contract: a law for each way out. Assumes nothing.
use native.Mathlib.Omega.{arith}
use Rattle.scan.proofs.expansion.Steps.{next_over, next_cut, next_read}
use Rattle.scan.proofs.expansion.next_escape.Goals as goal

pub returns-then-text-copied : goal.returns-then-text-copied
returns-then-text-copied c = let p = rw c.in_ok-copied.was at c.copy_plain.ensures in next_over p.0 c.if-text-copied.true

pub returns-then-copied-length : goal.returns-then-copied-length
returns-then-copied-length c =
    let p = rw c.in_ok-copied.was at c.copy_plain.ensures in
    let h = c.if-text-copied.false in
    next_cut p.0 h (p.1 h) c.escape_at-reading.ensures (omega arith)

pub returns : goal.returns
returns c =
    let p = rw c.in_ok-copied.was at c.copy_plain.ensures in
    let h = c.if-text-copied.false in
    next_read p.0 h (p.1 h) c.escape_at-reading.ensures (omega arith)
