-- `texts::removal::take_out` meets its contract: the law of a text that is taken out, for the state that the moves leave. Assumes nothing.
use mathlib.Core.Path.{refl}
use Prim.Native.Nat.{◌≤◌, ◌+◌, ◌-◌}
use native.Mathlib.Omega.{arith}
use lib.ListN.{length, take}
use Rattle.texts.specs.Table.Lent.{loans_same}
use Rattle.texts.specs.Table.Table.{total_length}
use Rattle.texts.proofs.table.Lists.{sum_mono}
use Rattle.texts.proofs.table.ChangeLaws.{starts_rise, taken_out}
use Rattle.texts.proofs.removal.take_out.Goals as goal
use Rattle.texts.proofs.removal.take_out.Goals.{Start}

-- the starts of the text, of the next one and of what follows all
rise : (s : Start) → let l = s.args.texts.now.lengths.now in
    (total_length (take s.args.i l) ≤ total_length (take (s.args.i + 1) l)) × (total_length (take (s.args.i + 1) l) ≤ total_length (take s.args.texts.now.count l)) × (total_length (take s.args.texts.now.count l) ≤ length s.args.texts.now.store.now)
rise s = let r = starts_rise _ _ _ _ _ _ s.args.texts.now.sound s.args.i s.requires in (r.0, r.1, s.args.texts.now.sound.inside)

pub start_of-to-requires : goal.start_of-to-requires
start_of-to-requires c = record { few = omega arith; fits = omega (arith, rise (goal.at.start_of-to-requires c).Start) }

pub start_of-from-requires : goal.start_of-from-requires
start_of-from-requires c = record { few = omega arith; fits = omega (arith, rise (goal.at.start_of-from-requires c).Start) }

pub move_down-requires : goal.move_down-requires
move_down-requires c = omega (arith, rise (goal.at.move_down-requires c).Start)

pub returns : goal.returns
returns c =
    record {
      less = refl;
      loans = loans_same;
      taken =
          rw (
            c.move_down.ensures,
            c.start_of-end.ensures,
            c.start_of-from.ensures,
            c.start_of-to.ensures,
            c.close_up.ensures,
            c.close_up-2.ensures,
            c.close_up-3.ensures,
            c.close_up-4.ensures,
          )
          (taken_out _ _ _ _ _ _ c.args.texts.now.sound c.args.i c.requires);
    }

-- the first rows but one stand for a table too
pub invariant_of-texts : goal.invariant_of-texts
invariant_of-texts c =
    let s = c.args.texts.now.sound in let n = c.args.texts.now.count in
    record {
      sound = record {
        names = record { firsts_long = s.names.firsts_long; seconds_long = s.names.seconds_long; few = omega (arith, s.names.few) };
        kinds_long = s.kinds_long;
        lengths_long = s.lengths_long;
        inside = omega (arith, s.inside, sum_mono c.args.texts.now.lengths.now (n - 1) n (omega arith));
      };
    }

pub invariant_of-texts-2 : goal.invariant_of-texts-2
invariant_of-texts-2 c =
    record {
      sound =
          rw (
            c.move_down.ensures,
            c.start_of-end.ensures,
            c.start_of-from.ensures,
            c.start_of-to.ensures,
            c.close_up.ensures,
            c.close_up-2.ensures,
            c.close_up-3.ensures,
            c.close_up-4.ensures,
          )
          (taken_out _ _ _ _ _ _ c.args.texts.now.sound c.args.i c.requires).lies;
    }
