-- `page::position::rows_below` meets its contract: the nearest trap or the page end lies below the rows used. Assumes nothing.
use Rattle.std.proofs.Common.{◌≡◌, ap, ◌∙◌, arith}
use Rattle.measure.specs.Counts.{down_of}
use Rattle.rules.specs.Traps.{nearest_trap}
use Rattle.rules.specs.Laws.Traps.{nearest_above, nearest_most}
use Rattle.traps.specs.Table.Table.{planted_of}
use Rattle.page.proofs.position.rows_below.Goals as goal
use Rattle.page.proofs.position.rows_below.Goals.{After-down}

-- the nearest row as a plain number
row : (c : After-down) → let a = c.args in c.down.result ≡ nearest_trap (down_of a.length) (down_of a.page.used) (down_of a.length) (planted_of a.planted)
row c = c.down.ensures ∙ ap down_of c.nearest-row.ensures

pub overflow_sub-down : goal.overflow_sub-down
overflow_sub-down c =
    let a = c.args in
    omega (arith, row (goal.at.overflow_sub-down c).After-down, c.down-2.ensures, nearest_above (down_of a.length) (down_of a.page.used) (down_of a.length) (planted_of a.planted) c.requires.above)

pub overflow_cast-down : goal.overflow_cast-down
overflow_cast-down c =
    let a = c.args in
    record { fits = omega (arith, row (goal.at.overflow_cast-down c).After-down, nearest_most (down_of a.length) (down_of a.page.used) (down_of a.length) (planted_of a.planted), c.requires.short) }
