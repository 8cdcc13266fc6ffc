-- `texts::definitions::open_macro` meets its contract, by whether the name is found. Assumes nothing.
use Prim.Native.Nat.{◌<◌}
use mathlib.Core.Path.{◌≡◌, refl, sym, ◌∙◌}
use native.Mathlib.Omega.{arith}
use Rattle.std.specs.Prelude.{None, Some}
use Rattle.texts.specs.Table.Lent.{loans_same}
use Rattle.texts.specs.Table.Table.{names_of}
use Rattle.texts.specs.Table.Places.{text_place}
use mathlib.Core.List.{[]}
use Rattle.texts.proofs.table.Laws.{found_row}
use Rattle.texts.proofs.definitions.EntryLaws.{open_old, open_new, open_65}
use Rattle.texts.proofs.definitions.open_macro.Goals as goal
use Rattle.texts.proofs.definitions.open_macro.Goals.{In-Some, In-None}

-- the name's place, and its row
found : (c : In-Some) → text_place c.args.name (names_of c.args.texts.now.firsts.now c.args.texts.now.seconds.now c.args.texts.now.count) ≡ Some c.in-Some.i
found c = sym c.find.ensures ∙ c.in-Some.is

row : (c : In-Some) → c.in-Some.i < c.args.texts.now.count
row c = found_row _ _ _ _ _ _ c.args.texts.now.sound c.args.name c.in-Some.i (found c)

-- it has none
missing : (c : In-None) → text_place c.args.name (names_of c.args.texts.now.firsts.now c.args.texts.now.seconds.now c.args.texts.now.count) ≡ None
missing c = sym c.find.ensures ∙ c.in-None.is

pub take_out-requires : goal.take_out-requires
take_out-requires c = row (goal.at.take_out-requires c).In-Some

pub returns-then-texts-lt-TABLE_SIZE : goal.returns-then-texts-lt-TABLE_SIZE
returns-then-texts-lt-TABLE_SIZE c =
    record {
      opened = open_new _ _ _ _ _ _ c.args.texts.now.sound c.args.name (missing (goal.at.returns-then-texts-lt-TABLE_SIZE c).In-None) (omega arith);
      refused = tt;
      loans = loans_same;
    }

pub returns-in-Some : goal.returns-in-Some
returns-in-Some c =
    let o = c.take_out.ensures in
    record {
      opened = rw o.less (open_old _ _ _ _ _ _ c.args.texts.now.sound c.args.name [] c.in-Some.i (found (goal.at.returns-in-Some c).In-Some) _ _ _ _ _ o.taken);
      refused = tt;
      loans = o.loans;
    }

pub returns-else-texts-lt-TABLE_SIZE : goal.returns-else-texts-lt-TABLE_SIZE
returns-else-texts-lt-TABLE_SIZE c =
    record {
      opened = open_65 _ _ _ _ _ _ c.args.texts.now.sound c.args.name (missing (goal.at.returns-else-texts-lt-TABLE_SIZE c).In-None) (omega arith);
      refused = refl;
      loans = loans_same;
    }
