-- `texts::table::text_bytes` meets its contract: the part at the spot that is looked up. Assumes nothing.
use Prim.Native.Nat.{◌≤◌, ◌+◌, ◌-◌}
use mathlib.Core.Path.{◌≡◌, ap}
use native.Mathlib.Omega.{arith}
use lib.ListN.{length}
use Rattle.texts.specs.Table.Places.{bytes_or}
use Rattle.texts.proofs.table.text_bytes.Goals as goal
use Rattle.texts.proofs.table.text_bytes.Goals.{In-Some}

-- the spot lies within the store
inside : (c : In-Some) → c.in-Some.spot.at + c.in-Some.spot.length ≤ length c.args.texts.now.store.now
inside c = rw c.in-Some.is at c.look_up.ensures.inside

pub slice_bounds-result-end : goal.slice_bounds-result-end
slice_bounds-result-end c = inside (goal.at.slice_bounds-result-end c).In-Some

pub returns-in-Some : goal.returns-in-Some
returns-in-Some c =
    let t = c.in-Some.spot in
    let e : t.at + t.length - t.at ≡ t.length = omega arith in
    rw e (ap bytes_or (rw c.in-Some.is at c.look_up.ensures.is))

pub returns-in-None : goal.returns-in-None
returns-in-None c = ap bytes_or (rw c.in-None.is at c.look_up.ensures.is)
