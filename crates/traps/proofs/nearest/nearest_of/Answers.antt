-- `traps::nearest::nearest_of` meets its contract: the search is a fold. Assumes nothing.
use Rattle.traps.specs.Table.TableLaws.{nearest_fold}
use Rattle.std.proofs.Common.{◌≡◌, ◌∙◌, rules, fold}
use Rattle.rules.specs.Traps.{row_of, nearer}
use Rattle.traps.proofs.nearest.nearest_of.Goals as goal

pub returns : goal.returns
returns c =
    let a = c.args in
    let e : c.fold.result ≡ fold (λ b t. nearer a.row (row_of a.page t.place.0) b) a.best a.traps.now = search rules in
    e ∙ nearest_fold a.page a.row a.best a.traps.now
