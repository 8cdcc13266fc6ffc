-- `fill::unfilled::put_text` meets its contract. Assumes nothing.
use borrow.Author.Rules.{rules}
use native.Mathlib.Omega.{arith}
use lib.ListN.{length, replicate}
use Prim.Native.Nat.{◌≤◌, ◌<◌}
use lib.Seq.{length-sets}
use Rattle.rules.specs.Filling.{printed, width}
use Rattle.rules.proofs.Laws.Filling.{printed_length}
use Rattle.fill.specs.Words.Parts.{bytes_between}
use Rattle.fill.proofs.unfilled.Rows.{row_done, row_alone, text_none, text_row_lem, text_short}
use Rattle.fill.proofs.unfilled.put_text.Goals as goal
use Rattle.fill.proofs.unfilled.put_text.Goals.{After-put_word-n, Else-end-at}

-- what is printed up to the last byte of which more than a blank is printed is no longer
short : (c : Else-end-at) → let a = c.args in width (bytes_between a.line.now a.at c.text_end-end.result) ≤ length (printed (bytes_between a.line.now a.at a.to))
short c =
    let a = c.args in
    text_short a.line.now a.at a.to c.text_end-end.result (omega arith) c.text_end-end.ensures a.blanks (omega (arith, c.if-end-at.false, c.text_end-end.ensures.low))

-- the newline has a place
below : (c : After-put_word-n) → c.put_word-n.result < 872
below c =
    let a = c.args in
    omega (arith, c.put_word-n.ensures.end, printed_length (bytes_between a.line.now a.at c.text_end-end.result), short (goal.at.After-put_word-n c).Else-end-at, c.requires.1.fits)

pub returns-then-end-at : goal.returns-then-end-at
returns-then-end-at c =
    let a = c.args in
    record { written = row_alone a.row.now _ (text_none a.line.now a.at a.to c.text_end-end.result (omega arith) c.text_end-end.ensures a.blanks c.if-end-at.true); upper_bound = search rules }

pub put_word-n-requires : goal.put_word-n-requires
put_word-n-requires c =
    let a = c.args in
    let e = c.text_end-end.ensures in (
      record { long = c.requires.0.long; ordered = e.low; few = omega (arith, c.requires.0, e.high) },
      rw (c.put_run.ensures, length-sets a.row.now 0 (replicate a.blanks 32)) (omega (arith, short (goal.at.put_word-n-requires c).Else-end-at, c.requires.1)),
    )

pub bounds-row-n : goal.bounds-row-n
bounds-row-n c = below (goal.at.bounds-row-n c).After-put_word-n

pub overflow_add-result : goal.overflow_add-result
overflow_add-result c = omega (arith, below (goal.at.overflow_add-result c).After-put_word-n)

pub returns : goal.returns
returns c =
    let a = c.args in record {
      written = row_done a.row.now _ _ _ _ a.blanks _ c.put_run.ensures c.put_word-n.ensures
          (text_row_lem a.line.now a.at a.to c.text_end-end.result (omega (arith, c.requires.0)) c.text_end-end.ensures a.blanks (omega (arith, c.if-end-at.false, c.text_end-end.ensures.low)));
      upper_bound = omega (arith, below (goal.at.returns c).After-put_word-n);
    }
