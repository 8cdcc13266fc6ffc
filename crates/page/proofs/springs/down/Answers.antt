-- `page::springs::down` meets its contract. Assumes nothing.
use mathlib.Core.Path.{◌≡◌, sym, ap, ◌∙◌, subst}
use Rattle.measure.specs.Counts.{down_of}
use Rattle.traps.specs.Table.Table.{planted_of}
use Rattle.page.specs.Position.Landing.{Landing, page_of, landing_is, landing_down}
use Rattle.page.specs.Position.LandingLaws.{landed, down_lands}
use Rattle.page.specs.Springs.Calls.{LandsWithin, LandsNumbered}
use Rattle.page.specs.Springs.MoveLaws.{down_within, down_numbered}
use Rattle.rules.specs.Rows as rule
use Rattle.page.proofs.springs.Stacks.{moved}
use Rattle.page.proofs.springs.down.Goals as goal

pub returns : goal.returns
returns c =
    let a = c.args in let m = c.move_down-moved in
    moved (landing_is m.result) (rule.down (down_of a.rows)) a.page a.length a.planted a.held a.bytes.now a.stack a.arena.now a.ends.now a.firsts.now a.seconds.now a.texts _ _ _ c.land.ensures
    (λ held x e f g.
    let q : landing_is m.result ≡ landing_down x.page x.layout.page (down_of a.rows) x.tables.traps = rw (e, f, g) m.ensures in
    ap (λ (l : Landing). landed l held x) q ∙ down_lands held x (down_of a.rows))
    c.requires.0.above
    (subst (LandsWithin (down_of a.length)) (sym m.ensures) (down_within (page_of a.page) (down_of a.length) (planted_of a.planted) c.requires.0.above (down_of a.rows)))
    (λ h. subst LandsNumbered (sym m.ensures) (down_numbered (page_of a.page) (down_of a.length) (planted_of a.planted) h (down_of a.rows)))
