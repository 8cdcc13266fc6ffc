-- `texts::table::lacks_name` meets its contract. Assumes nothing.
use Rattle.std.proofs.Common.{not, ◌-◌, ◌∙◌, refl, rules, tests}
use Rattle.std.proofs.lemmas.Iterator.{YieldsList-from_range}
use Rattle.std.proofs.lemmas.Iterator.Search.{all_from_yields_List}
use Rattle.texts.proofs.table.Laws.{row_has, lacks_rows}
use Rattle.texts.proofs.table.lacks_name.Goals as goal

pub returns : goal.returns
returns c =
    let a = c.args in
    all_from_yields_List (λ i. not (row_has a.firsts.now a.seconds.now a.name i)) _ _ _ c.all.ensures.ran
    (YieldsList-from_range a.place a.count (a.count - a.place) refl refl) (λ x b q k. search (rules, tests))
    ∙ lacks_rows _ _ _ c.requires a.name a.place (a.count - a.place) refl
