-- `traps::nearest::seen_at` meets its contract. Assumes nothing.
use Rattle.std.proofs.Common.{◌≡◌, ap, ◌∙◌, rules, tests, option_map}
use Rattle.std.proofs.lemmas.Iterator.{YieldsList-from_slice}
use Rattle.std.proofs.lemmas.Iterator.Search.{find_from_yields_List}
use Rattle.measure.specs.Counts.{down_of}
use Rattle.rules.specs.Traps.{row_of, is_row, seen_at}
use Rattle.traps.specs.Table.Table.{planted_of}
use Rattle.traps.specs.Table.TableLaws.{seen_find}
use Rattle.traps.proofs.nearest.seen_at.Goals as goal
use Rattle.traps.proofs.nearest.seen_at.Goals.{After-find}

-- the name of what the search found
named : (c : After-find)
    → let a = c.args in option_map (λ t. t.name) (option_map (λ t. t.now) c.find.result) ≡ seen_at (down_of a.page) (down_of a.row) (planted_of a.p)
named c =
    let a = c.args in
    let ts = planted_of a.p in
    let e = find_from_yields_List (λ t. is_row (down_of a.row) (row_of (down_of a.page) t.place.0)) _ _ c.find.result c.find.ensures.ran (YieldsList-from_slice ts cc) (λ x b q k. search (rules, tests)) in
    ap (option_map (λ t. t.name)) e ∙ seen_find (down_of a.page) (down_of a.row) ts

pub returns-in_err-seen : goal.returns-in_err-seen
returns-in_err-seen c =
    let e = rw c.in_err-seen.was at (named (goal.at.returns-in_err-seen c).After-find) in cc (c.from_residual.ensures)

pub returns : goal.returns
returns c = rw c.in_ok-seen.was at (named (goal.at.returns c).After-find)
