-- `fill::words::trim_end` meets its contract. Assumes nothing.
use Rattle.std.proofs.Common.{rules, ◌≡◌, length, ◌∙◌, arith}
use Prim.Native.Nat.{ℕ, ◌-◌, ◌≤◌}
use mathlib.Core.Path.{refl, sym, ap}
use mathlib.Core.List.{reverse}
use borrow.Author.Tests.{tests}
use Rattle.std.specs.List.{suffix_len}
use Rattle.std.proofs.lemmas.List.Folds.{length-prefix_len}
use Rattle.std.proofs.lemmas.Iterator.Adapters.{YieldsList-from_rev_slice}
use Rattle.std.proofs.lemmas.Iterator.Consumers.{count_from_yields_List, YieldsList-at}
use Rattle.std.proofs.lemmas.Iterator.Search.{YieldsList-from_take_while}
use Rattle.fill.specs.Words.Parts.{bytes_between}
use Rattle.fill.proofs.words.Parts.{passing_few, failing_last, without_passing}
use borrow.Author.Tests.{eqb-true}
use lib.Dec.{eqb}
use Rattle.rules.specs.Filling.{trimmed}
use Rattle.fill.proofs.words.Ends.{trim_more, trim_whole}
use Rattle.fill.proofs.words.trim_end.Goals as goal
use Rattle.fill.proofs.words.trim_end.Goals.{After-count-spaces}

counted : (c : After-count-spaces) → let a = c.args in c.count-spaces.result ≡ suffix_len (λ b. eqb b 32) (bytes_between a.line.now a.at a.to)
counted c =
    let h : c.count-spaces.result ≡ suffix_len (λ b. eqb b 32) c.slice.result.now =
    count_from_yields_List _ _ c.count-spaces.ensures.ran (YieldsList-from_take_while _ (λ b. eqb b 32) (YieldsList-at c.take_while.ensures.source (YieldsList-from_rev_slice c.slice.result.now (ap (λ s. s.rest.now) c.rev.ensures.source ∙ c.iter.ensures.rest))) c.take_while.ensures.closure c.take_while.ensures.done (λ x b q k. search (rules, tests)))
    ∙ length-prefix_len {X = ℕ} (λ b. eqb b 32) (reverse c.slice.result.now) in
    h ∙ ap (suffix_len (λ b. eqb b 32)) c.slice.ensures

few : (c : After-count-spaces) → let a = c.args in c.count-spaces.result ≤ a.to - a.at
few c =
    let a = c.args in
    omega (arith, counted c, passing_few (λ b. eqb b 32) a.line.now a.at a.to (omega arith))

pub overflow_sub-result : goal.overflow_sub-result
overflow_sub-result c = omega (arith, few c)

-- the part that is left ends in no space
trimmed_is : (c : After-count-spaces) → let a = c.args in trimmed (bytes_between a.line.now a.at (a.to - c.count-spaces.result)) ≡ bytes_between a.line.now a.at (a.to - c.count-spaces.result)
trimmed_is c =
    let a = c.args in
    let k : a.to ≤ length a.line.now = omega arith in
    sym (rw (counted c) (trim_whole a.line.now a.at (a.to - suffix_len (λ b. eqb b 32) (bytes_between a.line.now a.at a.to)) (omega (arith, k)) (failing_last (λ b. eqb b 32) a.line.now a.at a.to k)))

pub returns : goal.returns
returns c =
    let a = c.args in
    let k : a.to ≤ length a.line.now = omega arith in
    record {
      result_value = sym (rw (counted c) (without_passing (λ b. eqb b 32) a.line.now a.at a.to k (λ i. trimmed (bytes_between a.line.now a.at a.to) ≡ trimmed (bytes_between a.line.now a.at i)) refl (λ i h j e q. q ∙ trim_more a.line.now a.at i (omega (arith, k)) h (eqb-true _ _ e))) ∙ trimmed_is c);
      lower_bound = (omega (arith, few c), omega arith);
    }
