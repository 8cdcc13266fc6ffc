-- `fill::unfilled::text_end` meets its contract. Assumes nothing.
use Rattle.std.proofs.Common.{rules, ◌≡◌, length, ◌∙◌, arith}
use Prim.Native.Nat.{ℕ, ◌-◌, ◌≤◌}
use mathlib.Core.Path.{refl, ap}
use mathlib.Core.List.{reverse}
use borrow.Author.Tests.{tests}
use Rattle.std.specs.List.{suffix_len}
use Rattle.std.proofs.lemmas.List.Folds.{length-prefix_len}
use Rattle.std.proofs.lemmas.Iterator.Adapters.{YieldsList-from_rev_slice}
use Rattle.std.proofs.lemmas.Iterator.Consumers.{count_from_yields_List, YieldsList-at}
use Rattle.std.proofs.lemmas.Iterator.Search.{YieldsList-from_take_while}
use Rattle.fill.specs.Words.Parts.{bytes_between}
use Rattle.fill.proofs.words.Parts.{passing_few, failing_last, without_passing}
use mathlib.Core.List.{◌++◌}
use lib.ListN.{replicate}
use Rattle.rules.specs.Bytes.{space}
use Rattle.rules.specs.Filling.{printed, trimmed}
use Rattle.fill.specs.Unfilled.Lines.{is_blank_byte}
use Rattle.fill.proofs.unfilled.Rows.{text_more}
use Rattle.fill.proofs.unfilled.text_end.Goals as goal
use Rattle.fill.proofs.unfilled.text_end.Goals.{After-count-blanks}

counted : (c : After-count-blanks) → let a = c.args in c.count-blanks.result ≡ suffix_len is_blank_byte (bytes_between a.line.now a.at a.to)
counted c =
    let h : c.count-blanks.result ≡ suffix_len is_blank_byte c.slice-part.result.now =
    count_from_yields_List _ _ c.count-blanks.ensures.ran (YieldsList-from_take_while _ is_blank_byte (YieldsList-at c.take_while.ensures.source (YieldsList-from_rev_slice c.slice-part.result.now (ap (λ s. s.rest.now) c.rev.ensures.source ∙ c.iter.ensures.rest))) c.take_while.ensures.closure c.take_while.ensures.done (λ x b q k. search (rules, tests)))
    ∙ length-prefix_len {X = ℕ} is_blank_byte (reverse c.slice-part.result.now) in
    h ∙ ap (suffix_len is_blank_byte) c.slice-part.ensures

few : (c : After-count-blanks) → let a = c.args in c.count-blanks.result ≤ a.to - a.at
few c =
    let a = c.args in
    omega (arith, counted c, passing_few is_blank_byte a.line.now a.at a.to (omega arith))

pub overflow_sub-result : goal.overflow_sub-result
overflow_sub-result c = omega (arith, few c)

pub returns : goal.returns
returns c =
    let a = c.args in
    let k : a.to ≤ length a.line.now = omega arith in
    record {
      low = omega (arith, few c);
      high = omega arith;
      is = λ n. rw (counted c) (without_passing is_blank_byte a.line.now a.at a.to k (λ i. trimmed (replicate n space ++ printed (bytes_between a.line.now a.at a.to)) ≡ trimmed (replicate n space ++ printed (bytes_between a.line.now a.at i))) refl (λ i h j e q. q ∙ text_more a.line.now a.at i (omega (arith, k)) n h e));
      last = rw (counted c) (failing_last is_blank_byte a.line.now a.at a.to k);
    }
