-- `fill::words::word_end` meets its contract. The invariant: the end of the word, and its width less that of the bytes passed, are the same from here on. Assumes nothing.
use mathlib.Core.Path.{◌≡◌, sym, ap, ◌∙◌}
use native.Mathlib.Omega.{arith}
use Prim.Native.Nat.{◌≤◌}
use lib.ListN.{length}
use Rattle.measure.specs.Counts.{cells_across}
use Rattle.fill.proofs.words.Words.{run_more, run_stop, run_end, width_more, width_stop, width_end}
use Rattle.fill.proofs.words.word_end.Goals as goal

pub returns-then-byte-eq32 : goal.returns-then-byte-eq32
returns-then-byte-eq32 c =
    let l = c.loop-i in
    let a = c.args in
    let k : a.to ≤ length a.line.now = omega arith in
    record {
      place = run_stop a.line.now l.i a.to k c.loop-i-test.true c.if-byte-eq32.true ∙ sym l.invariant.place;
      width = c.as_cells.ensures ∙ ap cells_across (width_stop a.line.now l.i a.to l.width k c.loop-i-test.true c.if-byte-eq32.true ∙ sym l.invariant.cells);
      low = omega arith;
      high = omega arith;
    }

pub loop-i-preserved : goal.loop-i-preserved
loop-i-preserved c =
    let l = c.loop-i in
    let a = c.args in
    let k : a.to ≤ length a.line.now = omega arith in
    let t = c.loop-i-test.true in
    record {
      place = l.invariant.place ∙ run_more a.line.now l.i a.to k t c.if-byte-eq32.false;
      cells = rw c.cell_of-width.ensures.value (l.invariant.cells ∙ width_more a.line.now l.i a.to l.width k t c.if-byte-eq32.false);
      few = omega arith;
    }

pub returns : goal.returns
returns c =
    let l = c.loop-i in
    let a = c.args in
    let k : a.to ≤ length a.line.now = omega arith in
    let e : a.to ≡ l.i = omega arith in
    record {
      place = e ∙ run_end a.line.now l.i a.to k (omega arith) ∙ sym l.invariant.place;
      width = c.as_cells-2.ensures ∙ ap cells_across (width_end a.line.now l.i a.to l.width k (omega arith) ∙ sym l.invariant.cells);
      low = c.requires.ordered;
      high = omega arith;
    }
