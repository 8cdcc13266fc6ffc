-- `record_checks::state_limits::are_places` meets its contract. Assumes nothing.
use mathlib.Core.Path.{sym, ◌∙◌}
use borrow.Author.Rules.{rules}
use borrow.Author.Tests.{tests}
use Rattle.std.proofs.lemmas.Iterator.{YieldsList-from_slice}
use Rattle.std.proofs.lemmas.Iterator.Search.{all_from_yields_List}
use Rattle.registers.specs.Checks.Checks as registers
use Rattle.record_checks.proofs.state_limits.LimitWalks.{places_all}
use Rattle.record_checks.proofs.state_limits.are_places.Goals as goal

pub returns : goal.returns
returns c = all_from_yields_List (λ t. registers.in_bounds t.place.0) _ _ _ c.all.ensures.ran (YieldsList-from_slice _ c.iter.ensures.rest) (λ x b q k. search (rules, tests)) ∙ sym (places_all _)
