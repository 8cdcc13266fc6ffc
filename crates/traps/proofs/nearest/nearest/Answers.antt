-- `traps::nearest::nearest` meets its contract: what is found is at most the best to begin with, and so a count of rows. Assumes nothing.
use Rattle.std.proofs.Common.{◌≡◌, ◌<◌, ◌^◌, ℤ, pos, negsuc, arith, rules, FitsSigned, w32}
use mir.Facts.{to_z_pos}
use Rattle.measure.specs.Counts.{nat_of, down_of}
use Rattle.rules.specs.Traps.{nearest_trap}
use Rattle.rules.specs.Laws.Traps.{nearest_most}
use Rattle.traps.specs.Table.Table.{planted_of}
use Rattle.traps.proofs.nearest.nearest.Goals as goal
use Rattle.traps.proofs.nearest.nearest.Goals.{After-nearest_of-found}

small : (z : ℤ) → FitsSigned w32 z → nat_of z < 2 ^ 31
small (pos n) f = f.sfits
small (negsuc n) f = omega arith

found : (c : After-nearest_of-found)
    → let a = c.args in c.nearest_of-found.result ≡ nearest_trap (down_of a.page) (down_of a.row) (down_of a.best) (planted_of a.p)
found c = cc

few : (c : After-nearest_of-found) → c.nearest_of-found.result < 2 ^ 31
few c =
    let a = c.args in
    omega (arith, found c, nearest_most (down_of a.page) (down_of a.row) (down_of a.best) (planted_of a.p), small a.best.0 (search rules))

pub overflow_cast-result : goal.overflow_cast-result
overflow_cast-result c = record { sfits = few c }

pub returns : goal.returns
returns c = rw (to_z_pos w32 {n = c.nearest_of-found.result} (few c), found c)
