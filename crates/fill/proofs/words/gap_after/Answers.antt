-- `fill::words::gap_after` meets its contract: what a line ends in is what it ends in without its trailing spaces. Assumes nothing.
use borrow.Author.Rules.{rules}
use mathlib.Core.Path.{ap, ◌∙◌}
use native.Mathlib.Omega.{arith}
use Rattle.measure.specs.Counts.{cells_across}
use Rattle.fill.proofs.words.Ends.{gap_none, gap_last}
use Rattle.fill.proofs.words.gap_after.Goals as goal

pub returns-then-end-at : goal.returns-then-end-at
returns-then-end-at c =
    let a = c.args in
    record { value = ap cells_across (gap_none a.line.now a.at a.to c.trim_end-end.result (omega arith) c.trim_end-end.ensures.result_value (omega arith)); result_bound = search rules }

pub returns : goal.returns
returns c =
    let a = c.args in
    record { value = c.gap_behind.ensures.value ∙ ap cells_across (gap_last a.line.now a.at a.to c.trim_end-end.result (omega arith) c.trim_end-end.ensures.result_value (omega arith) (omega arith)); result_bound = c.gap_behind.ensures.result_bound }
