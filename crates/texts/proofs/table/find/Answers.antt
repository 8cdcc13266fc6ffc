-- `texts::table::find` meets its contract. Assumes nothing.
use Rattle.std.proofs.Common.{◌-◌, ◌∙◌, refl, rules, tests}
use Rattle.std.proofs.lemmas.Iterator.{YieldsList-from_range}
use Rattle.std.proofs.lemmas.Iterator.Search.{position_from_yields_List}
use Rattle.std.proofs.lemmas.Iterator.Adapters.{position_from-zero}
use Rattle.std.specs.List.{range_with_len}
use Rattle.texts.proofs.table.Laws.{row_has, further_0, find_rows}
use Rattle.texts.proofs.table.find.Goals as goal

pub returns : goal.returns
returns c =
    let a = c.args in
    let has = row_has a.firsts.now a.seconds.now a.name in
    position_from_yields_List has _ _ _ c.position.ensures.ran (YieldsList-from_range 0 a.count (a.count - 0) refl refl) (λ x b q k. search (rules, tests))
    ∙ position_from-zero has (range_with_len 0 (a.count - 0)) ∙ find_rows _ _ _ c.requires a.name 0 (a.count - 0) refl ∙ further_0 _
