-- `texts::definitions::define_string` meets its contract, by whether the name is found and whether there is room. Assumes nothing.
use Prim.Native.Nat.{◌≤◌, ◌<◌, ◌+◌, ◌-◌}
use mathlib.Core.Bool.{Bool, true, false}
use mathlib.Core.Path.{◌≡◌, refl, sym, ◌∙◌}
use native.Mathlib.Omega.{arith}
use lib.Dec.{ltb}
use lib.ListN.{length, take, get_or}
use borrow.Author.Tests.{ltb-true, ltb-false}
use Rattle.std.specs.Prelude.{None, Some}
use Rattle.texts.specs.Table.Table.{names_of, total_length}
use Rattle.texts.specs.Table.Places.{text_place}
use Rattle.texts.specs.Table.Changes.{room_of}
use Rattle.texts.specs.Table.Lent.{loans_twice, loans_same}
use Rattle.texts.proofs.table.Laws.{found_row}
use Rattle.texts.proofs.table.Lists.{sum_step, sum_mono}
use Rattle.texts.proofs.definitions.EntryLaws.{room_small, define_65, define_past, define_new, define_over_room, define_old}
use Rattle.texts.proofs.definitions.define_string.Goals as goal
use Rattle.texts.proofs.definitions.define_string.Goals.{After-too_long, After-too_long-in-None, In-Some, In-None}

-- the name's place, and its row
found : (c : In-Some) → text_place c.args.name (names_of c.args.texts.now.firsts.now c.args.texts.now.seconds.now c.args.texts.now.count) ≡ Some c.in-Some.i
found c = sym c.find.ensures ∙ c.in-Some.is

row : (c : In-Some) → c.in-Some.i < c.args.texts.now.count
row c = found_row _ _ _ _ _ _ c.args.texts.now.sound c.args.name c.in-Some.i (found c)

-- it has none
missing : (c : In-None) → text_place c.args.name (names_of c.args.texts.now.firsts.now c.args.texts.now.seconds.now c.args.texts.now.count) ≡ None
missing c = sym c.find.ensures ∙ c.in-None.is

-- the old text is a part of what is live
part : (c : In-Some) → get_or c.args.texts.now.lengths.now c.in-Some.i 0 ≤ total_length (take c.args.texts.now.count c.args.texts.now.lengths.now)
part c =
    let l = c.args.texts.now.lengths.now in let i = c.in-Some.i in
    omega (arith, sum_step l i, sum_mono l (i + 1) c.args.texts.now.count (omega (arith, row c)))

-- whether the string is too long in place of the old text, and behind all texts
over : (c : After-too_long) (t : Bool) → c.too_long.result ≡ t → ltb (room_of (length c.args.texts.now.store.now)) (total_length (take c.args.texts.now.count c.args.texts.now.lengths.now) - get_or c.args.texts.now.lengths.now c.in-Some.i 0 + length c.args.text.now) ≡ t
over c t e = rw (← c.room_of-room.ensures, ← c.start_of-live.ensures, ← c.from-old.ensures) (sym c.too_long.ensures ∙ e)

over_new : (c : After-too_long-in-None) (t : Bool) → c.too_long-in-None.result ≡ t → ltb (room_of (length c.args.texts.now.store.now)) (total_length (take c.args.texts.now.count c.args.texts.now.lengths.now) + length c.args.text.now) ≡ t
over_new c t e = rw (← c.room_of-room.ensures, ← c.start_of-live.ensures) (sym c.too_long-in-None.ensures ∙ e)

-- it is not
fits : (c : After-too_long) → c.too_long.result ≡ false → total_length (take c.args.texts.now.count c.args.texts.now.lengths.now) - get_or c.args.texts.now.lengths.now c.in-Some.i 0 + length c.args.text.now ≤ room_of (length c.args.texts.now.store.now)
fits c e = ltb-false _ _ (over c false e)

fits_new : (c : After-too_long-in-None) → c.too_long-in-None.result ≡ false → total_length (take c.args.texts.now.count c.args.texts.now.lengths.now) + length c.args.text.now ≤ room_of (length c.args.texts.now.store.now)
fits_new c e = ltb-false _ _ (over_new c false e)

pub offset_bounds-lengths-i : goal.offset_bounds-lengths-i
offset_bounds-lengths-i c = record { fits = omega (arith, row (goal.at.offset_bounds-lengths-i c).In-Some, c.args.texts.now.sound.names.few) }

pub bounds-lengths-i : goal.bounds-lengths-i
bounds-lengths-i c = omega (arith, row (goal.at.bounds-lengths-i c).In-Some, c.args.texts.now.sound.names.few)

pub overflow_sub-live : goal.overflow_sub-live
overflow_sub-live c = omega (arith, part (goal.at.overflow_sub-live c).In-Some, c.start_of-live.ensures, c.from-old.ensures)

pub returns-then-too_long : goal.returns-then-too_long
returns-then-too_long c =
    record {
      defined = define_over_room _ _ _ _ _ _ c.args.texts.now.sound c.args.name c.args.text.now c.in-Some.i (found (goal.at.returns-then-too_long c).In-Some) (ltb-true _ _ (over (goal.at.returns-then-too_long c).After-too_long true c.if-too_long.true));
      refused = refl;
      loans = loans_same;
    }

pub take_out-requires : goal.take_out-requires
take_out-requires c = row (goal.at.take_out-requires c).In-Some

pub append-requires : goal.append-requires
append-requires c =
    let t = c.take_out.ensures in let k = t.taken in let o = fits (goal.at.append-requires c).After-too_long c.if-too_long.false in let r = room_small (length c.args.texts.now.store.now) in
    rw t.less (omega (arith, row (goal.at.append-requires c).In-Some, c.args.texts.now.sound.names.few), omega (arith, k.size, k.long, o, r), omega (arith, o, r))

pub returns-then-texts-ge-TABLE_SIZE : goal.returns-then-texts-ge-TABLE_SIZE
returns-then-texts-ge-TABLE_SIZE c =
    record {
      defined = define_65 _ _ _ _ _ _ c.args.texts.now.sound c.args.name c.args.text.now (missing (goal.at.returns-then-texts-ge-TABLE_SIZE c).In-None) (omega arith);
      refused = refl;
      loans = loans_same;
    }

pub returns-then-too_long-2 : goal.returns-then-too_long-2
returns-then-too_long-2 c =
    record {
      defined = define_past _ _ _ _ _ _ c.args.texts.now.sound c.args.name c.args.text.now (missing (goal.at.returns-then-too_long-2 c).In-None) (ltb-true _ _ (over_new (goal.at.returns-then-too_long-2 c).After-too_long-in-None true c.if-too_long-2.true));
      refused = refl;
      loans = loans_same;
    }

pub append-requires-in-None : goal.append-requires-in-None
append-requires-in-None c =
    let o = fits_new (goal.at.append-requires-in-None c).After-too_long-in-None c.if-too_long-2.false in let r = room_small (length c.args.texts.now.store.now) in
    (omega arith, omega (arith, o, r), omega (arith, o, r))

pub returns-else-too_long : goal.returns-else-too_long
returns-else-too_long c =
    let o = fits (goal.at.returns-else-too_long c).After-too_long c.if-too_long.false in
    let t = c.take_out.ensures in let a = c.append.ensures in
    record {
      defined = define_old _ _ _ _ _ _ c.args.texts.now.sound c.args.name c.args.text.now c.in-Some.i (found (goal.at.returns-else-too_long c).In-Some) _ _ _ _ _ t.taken _ _ _ _ _ _ o (rw t.less at a.appended);
      refused = tt;
      loans = loans_twice t.loans a.loans;
    }

pub returns-else-too_long-2 : goal.returns-else-too_long-2
returns-else-too_long-2 c =
    let o = fits_new (goal.at.returns-else-too_long-2 c).After-too_long-in-None c.if-too_long-2.false in
    let a = c.append-in-None.ensures in
    record {
      defined = define_new _ _ _ _ _ _ c.args.texts.now.sound c.args.name c.args.text.now (missing (goal.at.returns-else-too_long-2 c).In-None) _ _ _ _ _ _ (omega arith) o a.appended;
      refused = tt;
      loans = a.loans;
    }
