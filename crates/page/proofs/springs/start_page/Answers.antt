-- `page::springs::start_page` meets its contract. Assumes nothing.
use mathlib.Core.Path.{◌≡◌, sym, ap, ◌∙◌, subst}
use Rattle.measure.specs.Counts.{down_of}
use Rattle.traps.specs.Table.Table.{planted_of}
use Rattle.page.specs.Position.Landing.{Landing, page_of, landing_is, landing_next}
use Rattle.page.specs.Position.LandingLaws.{landed, next_lands}
use Rattle.page.specs.Springs.Calls.{LandsWithin, LandsNumbered}
use Rattle.page.specs.Springs.MoveLaws.{next_within, next_numbered}
use Rattle.rules.specs.Rows as rule
use Rattle.page.proofs.springs.Stacks.{moved}
use Rattle.page.proofs.springs.start_page.Goals as goal

pub returns : goal.returns
returns c =
    let a = c.args in let m = c.start_page-moved in
    moved (landing_is m.result) rule.start_page a.page a.length a.planted a.held a.bytes.now a.stack a.arena.now a.ends.now a.firsts.now a.seconds.now a.texts _ _ _ c.land.ensures
    (λ held x e f g.
    let q : landing_is m.result ≡ landing_next x.page x.layout.page x.tables.traps = rw (e, f, g) m.ensures in
    ap (λ (l : Landing). landed l held x) q ∙ next_lands held x)
    c.requires.0.above
    (subst (LandsWithin (down_of a.length)) (sym m.ensures) (next_within (page_of a.page) (down_of a.length) (planted_of a.planted) c.requires.0.above))
    (λ h. subst LandsNumbered (sym m.ensures) (next_numbered (page_of a.page) (down_of a.length) (planted_of a.planted) h))
