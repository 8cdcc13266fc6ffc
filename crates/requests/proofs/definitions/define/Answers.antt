-- `requests::definitions::define` meets its contract: by its first argument. Assumes nothing.
use mathlib.Core.Path.{refl}
use Rattle.texts.specs.Table.Lent.{loans_same}
use Rattle.requests.proofs.definitions.TextLaws.{defines_there, defines_none}
use Rattle.requests.proofs.definitions.define.Goals as goal

pub returns-in_default : goal.returns-in_default
returns-in_default c =
    let a = c.args in let t = c.args.texts.now in
    record {
      defines = defines_none t.store.now t.firsts.now t.seconds.now t.kinds.now t.lengths.now t.count a.stack a.ends.now t.sound
          a.after_if a.line.now a.parts.now _ c.requires.2 c.in_default.ensures;
      count = refl;
      loans = loans_same;
    }

pub returns : goal.returns
returns c =
    let a = c.args in let t = c.args.texts.now in let m = c.define_by.ensures in
    record {
      defines = defines_there a.line.now a.parts.now c.requires.1 c.requires.2 c.in-Some.cut _ c.in-Some.ensures _ c.string_at-at.ensures a.after_if
          t.store.now t.firsts.now t.seconds.now t.kinds.now t.lengths.now t.count a.stack a.ends.now _ _ _ _ _ _ m.changes;
      count = m.count;
      loans = m.loans;
    }
