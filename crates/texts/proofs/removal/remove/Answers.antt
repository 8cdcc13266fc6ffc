-- `texts::removal::remove` meets its contract, by whether the name is found. Assumes nothing.
use Prim.Native.Nat.{◌<◌}
use mathlib.Core.Path.{◌≡◌, refl, sym, ◌∙◌}
use Rattle.std.specs.Prelude.{Some}
use Rattle.texts.specs.Table.Lent.{loans_same}
use Rattle.texts.specs.Table.Table.{names_of}
use Rattle.texts.specs.Table.Places.{text_place}
use Rattle.texts.proofs.table.Laws.{found_row}
use Rattle.texts.proofs.table.ChangeLaws.{remove_found, remove_not}
use Rattle.texts.proofs.removal.remove.Goals as goal
use Rattle.texts.proofs.removal.remove.Goals.{In-Some}

-- the name's place, and its row
found : (c : In-Some) → text_place c.args.name (names_of c.args.texts.now.firsts.now c.args.texts.now.seconds.now c.args.texts.now.count) ≡ Some c.in-Some.i
found c = sym c.find.ensures ∙ c.in-Some.is

row : (c : In-Some) → c.in-Some.i < c.args.texts.now.count
row c = found_row _ _ _ _ _ _ c.args.texts.now.sound c.args.name c.in-Some.i (found c)

pub take_out-requires : goal.take_out-requires
take_out-requires c = row (goal.at.take_out-requires c).In-Some

pub returns-in-Some : goal.returns-in-Some
returns-in-Some c =
    let o = c.take_out.ensures in let t = o.taken in
    record {
      removed = rw o.less (record { is = t.is ∙ sym (remove_found _ _ _ _ _ _ c.args.texts.now.sound c.args.name _ (found (goal.at.returns-in-Some c).In-Some)); lies = t.lies; long = t.long; past = t.past });
      loans = o.loans;
    }

pub returns-in-None : goal.returns-in-None
returns-in-None c =
    record {
      removed = record { is = sym (remove_not _ _ _ _ _ _ c.args.texts.now.sound c.args.name (sym c.find.ensures ∙ c.in-None.is)); lies = c.args.texts.now.sound; long = refl; past = λ m h. refl };
      loans = loans_same;
    }
