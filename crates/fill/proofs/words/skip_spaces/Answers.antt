-- `fill::words::skip_spaces` meets its contract. Assumes nothing.
use Rattle.std.proofs.Common.{rules, ◌≡◌, ◌∙◌, arith}
use borrow.Author.Tests.{tests}
use Rattle.std.proofs.lemmas.Iterator.{YieldsList-from_slice}
use Rattle.std.proofs.lemmas.Iterator.Consumers.{count_from_yields_List, YieldsList-at}
use Prim.Native.Nat.{ℕ, ◌+◌, ◌≤◌}
use Rattle.std.proofs.lemmas.List.Folds.{length-prefix_len}
use Rattle.std.proofs.lemmas.Iterator.Search.{YieldsList-from_take_while}
use lib.Dec.{eqb}
use Rattle.fill.specs.Words.Words.{spaces}
use Rattle.fill.specs.Words.Parts.{bytes_between}
use Rattle.fill.proofs.words.Words.{spaces_is, spaces_few}
use Rattle.fill.proofs.words.Parts.{part_length}
use Rattle.fill.proofs.words.skip_spaces.Goals as goal
use Rattle.fill.proofs.words.skip_spaces.Goals.{After-count-spaces}

counted : (c : After-count-spaces) → c.count-spaces.result ≡ spaces (bytes_between c.args.line.now c.args.at c.args.to)
counted c =
    let p = c.slice.result.now in
    count_from_yields_List _ _ c.count-spaces.ensures.ran (YieldsList-from_take_while _ (λ b. eqb b 32) (YieldsList-at c.take_while.ensures.source (YieldsList-from_slice _ c.iter.ensures.rest)) c.take_while.ensures.closure c.take_while.ensures.done (λ x b q k. search (rules, tests)))
    ∙ length-prefix_len {X = ℕ} (λ b. eqb b 32) p ∙ rw c.slice.ensures (spaces_is _)

few : (c : After-count-spaces) → c.args.at + c.count-spaces.result ≤ c.args.to
few c =
    let a = c.args in
    omega (arith, counted c, spaces_few (bytes_between a.line.now a.at a.to), part_length a.line.now a.at a.to (omega arith))

pub overflow_add-result : goal.overflow_add-result
overflow_add-result c = omega (arith, few c)

pub returns : goal.returns
returns c = record { value = omega (arith, counted c); lower_bound = (omega arith, few c) }
