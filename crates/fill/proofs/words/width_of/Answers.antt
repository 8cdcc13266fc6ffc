-- `fill::words::width_of` meets its contract. Assumes nothing.
use Rattle.std.proofs.Common.{rules, ◌≡◌, ◌∙◌, arith}
use borrow.Author.Tests.{tests}
use Rattle.std.proofs.lemmas.Iterator.{YieldsList-from_slice}
use Rattle.std.proofs.lemmas.Iterator.Consumers.{count_from_yields_List, YieldsList-at}
use mathlib.Core.Bool.{not}
use mathlib.Core.Path.{ap}
use lib.Dec.{eqb}
use Rattle.std.proofs.lemmas.Iterator.Consumers.{YieldsList-from_filter}
use Rattle.measure.specs.Counts.{cells_across}
use Rattle.rules.specs.Filling.{width}
use Rattle.fill.specs.Words.Parts.{bytes_between}
use Rattle.fill.proofs.words.Words.{width_is}
use Rattle.fill.proofs.collected.Writing.{part_width}
use Rattle.fill.proofs.words.width_of.Goals as goal
use Rattle.fill.proofs.words.width_of.Goals.{After-count-cells}

counted : (c : After-count-cells) → c.count-cells.result ≡ width (bytes_between c.args.line.now c.args.at c.args.to)
counted c =
    count_from_yields_List _ _ c.count-cells.ensures.ran (YieldsList-from_filter _ (λ b. not (eqb b 2)) (YieldsList-at c.filter.ensures.source (YieldsList-from_slice _ c.iter.ensures.rest)) c.filter.ensures.closure (λ x b q k. search (rules, tests)))
    ∙ rw c.slice.ensures (width_is _)

pub as_cells-requires : goal.as_cells-requires
as_cells-requires c =
    let a = c.args in
    omega (arith, counted c, part_width a.line.now a.at a.to (omega arith))

pub returns : goal.returns
returns c = c.as_cells.ensures ∙ ap cells_across (counted (goal.at.returns c).After-count-cells)
