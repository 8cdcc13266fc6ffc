-- `texts::table::no_name_twice` meets its contract. Assumes nothing.
use Rattle.std.proofs.Common.{◌+◌, ◌-◌, drop, get_or, sym, ◌∙◌, refl, rules, tests}
use Rattle.std.proofs.lemmas.Iterator.{YieldsList-from_range}
use Rattle.std.proofs.lemmas.Iterator.Search.{all_from_yields_List}
use Rattle.rules.specs.Names.{two_bytes}
use Rattle.texts.specs.Table.Table.{names_of}
use Rattle.texts.specs.Table.Checks.{lacks_name}
use Rattle.texts.proofs.table.CheckLaws.{distinct_rows, twice_few}
use Rattle.texts.proofs.table.no_name_twice.Goals as goal

pub returns-then-count-le-TABLE_SIZE : goal.returns-then-count-le-TABLE_SIZE
returns-then-count-le-TABLE_SIZE c =
    let a = c.args in
    all_from_yields_List (λ i. lacks_name (two_bytes (get_or a.firsts.now i 0) (get_or a.seconds.now i 0)) (drop (i + 1) (names_of a.firsts.now a.seconds.now a.count))) _ _ _ c.all.ensures.ran
    (YieldsList-from_range 0 a.count (a.count - 0) refl refl) (λ x b q k. search (rules, tests))
    ∙ distinct_rows _ _ _ c.requires c.if-count-le-TABLE_SIZE.true 0 (a.count - 0) refl ∙ sym (twice_few _ _ _ c.requires c.if-count-le-TABLE_SIZE.true)
