-- `traps::table::lacks_place` meets its contract. Assumes nothing.
use Rattle.std.proofs.Common.{◌∙◌, rules, tests, not}
use Rattle.std.proofs.lemmas.Iterator.{YieldsList-from_slice}
use Rattle.std.proofs.lemmas.Iterator.Search.{all_from_yields_List}
use Rattle.rules.specs.Numbers.{equal_z}
use Rattle.traps.proofs.table.CheckLaws.{lacks_all}
use Rattle.traps.proofs.table.lacks_place.Goals as goal

pub returns : goal.returns
returns c =
    let a = c.args in
    all_from_yields_List (λ t. not (equal_z a.place.0 t.place.0)) _ _ _ c.all.ensures.ran (YieldsList-from_slice a.traps.now cc) (λ x b q k. search (rules, tests)) ∙ lacks_all a.place.0 a.traps.now
