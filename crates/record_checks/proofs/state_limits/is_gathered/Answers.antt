-- `record_checks::state_limits::is_gathered` meets its contract: the look at all the bytes is a fold. Assumes nothing.
use mathlib.Core.Path.{◌≡◌, sym, ap, ◌∙◌}
use mathlib.Core.Bool.{false, not, ◌||◌}
use lib.ListN.{take}
use borrow.Author.Rules.{rules}
use borrow.Author.Tests.{tests}
use Rattle.std.specs.List.{fold}
use Rattle.std.proofs.lemmas.Iterator.{YieldsList-from_slice}
use Rattle.std.proofs.lemmas.Iterator.Consumers.{fold_from_yields_List}
use Rattle.record_checks.specs.StateLimits.LimitChecks.{odd_byte}
use Rattle.record_checks.proofs.state_limits.LimitWalks.{bytes_none, gathered_few}
use Rattle.record_checks.proofs.state_limits.is_gathered.Goals as goal

pub returns : goal.returns
returns c =
    let a = c.args in
    let h : c.fold.result ≡ fold (λ o b. o || odd_byte b) false (take a.count a.gathered.now) = fold_from_yields_List _ (λ o b. o || odd_byte b) false c.fold.result c.fold.ensures.ran (YieldsList-from_slice _ c.iter.ensures.rest) (λ o x r q k. search (rules, tests)) in
    ap not h ∙ sym (gathered_few a.gathered.now a.count c.if-count-gt-LINE_SIZE.false ∙ bytes_none false (take a.count a.gathered.now))
