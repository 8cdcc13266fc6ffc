-- `texts::definitions::append` meets its contract. Assumes nothing.
use Rattle.texts.specs.Table.Lent.{loans_same}
use Rattle.texts.proofs.definitions.EntryLaws.{appended}
use Rattle.texts.proofs.definitions.append.Goals as goal

pub invariant_of-texts-2 : goal.invariant_of-texts-2
invariant_of-texts-2 c =
    record {
      sound =
          rw (
            c.copy_in.ensures,
            c.start_of-at.ensures,
            c.enter.ensures.firsts,
            c.enter.ensures.seconds,
            c.enter.ensures.kinds,
            c.enter.ensures.lengths,
          )
          (appended _ _ _ _ _ _ c.args.texts.now.sound c.requires.0 c.args.name c.args.kind c.args.text.now c.requires.1).lies;
    }

pub returns : goal.returns
returns c =
    record {
      appended =
          rw (
            c.copy_in.ensures,
            c.start_of-at.ensures,
            c.enter.ensures.firsts,
            c.enter.ensures.seconds,
            c.enter.ensures.kinds,
            c.enter.ensures.lengths,
          )
          (appended _ _ _ _ _ _ c.args.texts.now.sound c.requires.0 c.args.name c.args.kind c.args.text.now c.requires.1);
      loans = loans_same;
    }
