-- `texts::definitions::close_macro` meets its contract. Assumes nothing.
use Rattle.texts.proofs.definitions.EntryLaws.{closed_macro}
use Rattle.texts.proofs.definitions.close_macro.Goals as goal

pub returns : goal.returns
returns c =
    rw (c.enter.ensures.firsts, c.enter.ensures.seconds, c.enter.ensures.kinds, c.enter.ensures.lengths)
    (closed_macro _ _ _ _ _ _ _ c.requires.0 c.requires.1 c.args.name)
