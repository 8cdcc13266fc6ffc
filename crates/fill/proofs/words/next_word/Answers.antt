-- `fill::words::next_word` meets its contract: the first word, and the words behind it. Assumes nothing.
use mathlib.Core.Path.{sym, ◌∙◌, ap}
use native.Mathlib.Omega.{arith}
use mathlib.Core.List.{List}
use Prim.Native.Nat.{ℕ, ◌≤◌, ◌<◌}
use lib.ListN.{length}
use Rattle.measure.specs.Counts.{cells_across}
use Rattle.rules.specs.Filling.{width}
use Rattle.fill.proofs.words.Words.{first_none, first_some, first_bytes, first_found}
use Rattle.fill.proofs.words.next_word.Goals as goal

pub returns-then-from-to : goal.returns-then-from-to
returns-then-from-to c =
    let a = c.args in
    record { result_value = sym (first_none a.line.now a.at a.to c.skip_spaces-from.result (omega arith) (omega arith) c.skip_spaces-from.ensures.value c.if-from-to.true); good_next = tt }

pub as_cells-requires : goal.as_cells-requires
as_cells-requires c = omega arith

pub returns : goal.returns
returns c =
    let a = c.args in
    let from = c.skip_spaces-from.result in
    let f = c.skip_spaces-from.ensures.value in
    let w = c.word_end-end in
    let g = c.as_cells.ensures in
    let k : a.to ≤ length a.line.now = omega arith in
    let h : from < a.to = omega arith in record {
      result_value = rw g (first_found a.line.now a.at a.to from k (omega arith) f w.result.to w.ensures.place h);
      good_next = record {
        low = omega arith;
        gap = g;
        some = first_some a.line.now a.at a.to from k (omega arith) f w.result.to w.ensures.place h;
        high = w.ensures.high;
        width = w.ensures.width ∙ ap (λ (b : List ℕ). cells_across (width b)) (first_bytes a.line.now a.at a.to from k (omega arith) f w.result.to w.ensures.place h);
      };
    }
