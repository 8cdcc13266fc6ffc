-- `texts::table::look_up` meets its contract. Assumes nothing.
use Prim.Native.Nat.{◌≤◌, ◌<◌, ◌+◌}
use mathlib.Core.Path.{◌≡◌, sym, ◌∙◌}
use native.Mathlib.Omega.{arith}
use lib.ListN.{length, take, get_or}
use Rattle.std.specs.Prelude.{Some}
use Rattle.texts.specs.Table.Table.{names_of, total_length}
use Rattle.texts.specs.Table.Places.{text_place}
use Rattle.texts.proofs.table.Laws.{found_row, found_text, not_text, text_inside}
use Rattle.texts.proofs.table.look_up.Goals as goal
use Rattle.texts.proofs.table.look_up.Goals.{In_ok-i}

-- the name's place, its row, and that its text lies in the store
found : (c : In_ok-i) → text_place c.args.name (names_of c.args.texts.now.firsts.now c.args.texts.now.seconds.now c.args.texts.now.count) ≡ Some c.in_ok-i.i
found c = sym c.find.ensures ∙ c.in_ok-i.was

row : (c : In_ok-i) → (c.in_ok-i.i < c.args.texts.now.count) × (c.in_ok-i.i < 64)
row c = let r = found_row c.args.texts.now.store.now c.args.texts.now.firsts.now c.args.texts.now.seconds.now c.args.texts.now.kinds.now c.args.texts.now.lengths.now c.args.texts.now.count c.args.texts.now.sound c.args.name c.in_ok-i.i (found c) in
    (r, omega (arith, c.args.texts.now.sound.names.few, r))

lies : (c : In_ok-i) → total_length (take c.in_ok-i.i c.args.texts.now.lengths.now) + get_or c.args.texts.now.lengths.now c.in_ok-i.i 0 ≤ length c.args.texts.now.store.now
lies c = text_inside c.args.texts.now.store.now c.args.texts.now.firsts.now c.args.texts.now.seconds.now c.args.texts.now.kinds.now c.args.texts.now.lengths.now c.args.texts.now.count c.args.texts.now.sound c.in_ok-i.i (row c).0

pub bounds-kinds-i : goal.bounds-kinds-i
bounds-kinds-i c = (row (goal.at.bounds-kinds-i c).In_ok-i).1

pub offset_bounds-lengths-i : goal.offset_bounds-lengths-i
offset_bounds-lengths-i c = record { fits = omega (arith, row (goal.at.offset_bounds-lengths-i c).In_ok-i) }

pub bounds-lengths-i : goal.bounds-lengths-i
bounds-lengths-i c = (row (goal.at.bounds-lengths-i c).In_ok-i).1

pub start_of-requires : goal.start_of-requires
start_of-requires c = record { few = omega (arith, row (goal.at.start_of-requires c).In_ok-i); fits = omega (arith, lies (goal.at.start_of-requires c).In_ok-i) }

pub returns : goal.returns
returns c =
    let t = found_text c.args.texts.now.store.now c.args.texts.now.firsts.now c.args.texts.now.seconds.now c.args.texts.now.kinds.now c.args.texts.now.lengths.now c.args.texts.now.count c.args.texts.now.sound c.args.name c.in_ok-i.i (found (goal.at.returns c).In_ok-i) in
    rw (c.kind_of.ensures, c.start_of.ensures, c.from.ensures) (record { is = sym t; inside = lies (goal.at.returns c).In_ok-i })

pub returns-in_err-i : goal.returns-in_err-i
returns-in_err-i c =
    rw c.from_residual.ensures (record {
      is = sym (not_text c.args.texts.now.store.now c.args.texts.now.firsts.now c.args.texts.now.seconds.now c.args.texts.now.kinds.now c.args.texts.now.lengths.now c.args.texts.now.count c.args.texts.now.sound c.args.name (sym c.find.ensures ∙ c.in_err-i.was));
      inside = tt;
    })
