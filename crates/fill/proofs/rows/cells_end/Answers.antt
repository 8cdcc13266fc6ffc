-- `fill::rows::cells_end` meets its contract. Assumes nothing.
use Rattle.std.proofs.Common.{rules, ◌≡◌, length, ◌∙◌, arith}
use Prim.Native.Nat.{ℕ, ◌-◌, ◌≤◌}
use mathlib.Core.Path.{refl, ap}
use mathlib.Core.List.{reverse}
use borrow.Author.Tests.{tests}
use Rattle.std.specs.List.{suffix_len}
use Rattle.std.proofs.lemmas.List.Folds.{length-prefix_len}
use Rattle.std.proofs.lemmas.Iterator.Adapters.{YieldsList-from_rev_slice}
use Rattle.std.proofs.lemmas.Iterator.Consumers.{count_from_yields_List, YieldsList-at}
use Rattle.std.proofs.lemmas.Iterator.Search.{YieldsList-from_take_while}
use Rattle.fill.specs.Words.Parts.{bytes_between}
use Rattle.fill.proofs.words.Parts.{passing_few, failing_last, without_passing}
use mathlib.Core.List.{◌++◌}
use lib.ListN.{replicate}
use Rattle.rules.specs.Bytes.{space}
use Rattle.rules.specs.Filling.{spread, trimmed}
use Rattle.fill.specs.Unfilled.Lines.{is_blank_cell}
use Rattle.fill.proofs.unfilled.Spreading.{end_more}
use Rattle.fill.proofs.rows.cells_end.Goals as goal
use Rattle.fill.proofs.rows.cells_end.Goals.{After-count-blanks}

counted : (c : After-count-blanks) → let a = c.args in c.count-blanks.result ≡ suffix_len is_blank_cell (bytes_between a.cells.now 0 a.length)
counted c =
    let h : c.count-blanks.result ≡ suffix_len is_blank_cell c.slice-all.result.now =
    count_from_yields_List _ _ c.count-blanks.ensures.ran (YieldsList-from_take_while _ is_blank_cell (YieldsList-at c.take_while.ensures.source (YieldsList-from_rev_slice c.slice-all.result.now (ap (λ s. s.rest.now) c.rev.ensures.source ∙ c.iter.ensures.rest))) c.take_while.ensures.closure c.take_while.ensures.done (λ x b q k. search (rules, tests)))
    ∙ length-prefix_len {X = ℕ} is_blank_cell (reverse c.slice-all.result.now) in
    h ∙ ap (suffix_len is_blank_cell) c.slice-all.ensures

few : (c : After-count-blanks) → let a = c.args in c.count-blanks.result ≤ a.length - 0
few c =
    let a = c.args in
    omega (arith, counted c, passing_few is_blank_cell a.cells.now 0 a.length (omega arith))

pub overflow_sub-result : goal.overflow_sub-result
overflow_sub-result c = omega (arith, few c)

pub returns : goal.returns
returns c =
    let a = c.args in
    let k : a.length ≤ length a.cells.now = omega arith in
    record {
      high = omega arith;
      is = λ n each few. rw (counted c) (without_passing is_blank_cell a.cells.now 0 a.length k (λ i. trimmed (replicate n space ++ spread each few (bytes_between a.cells.now 0 a.length)) ≡ trimmed (replicate n space ++ spread each few (bytes_between a.cells.now 0 i))) refl (λ i h j e q. q ∙ end_more a.cells.now i (omega (arith, k)) n each few h e));
      last = rw (counted c) (failing_last is_blank_cell a.cells.now 0 a.length k);
    }
