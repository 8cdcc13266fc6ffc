-- `page::springs::spring` meets its contract. Assumes nothing.
use Rattle.std.specs.Prelude.{None, Some, is_some}
use Rattle.std.proofs.Common.{refl, sym, ap, ◌∙◌}
use Rattle.page.proofs.springs.Stacks.{sprung_held, sprung_called, text_there, text_missing}
use Rattle.page.proofs.springs.spring.Goals as goal
use Rattle.page.proofs.springs.spring.Goals.{in_default-via-in-Some+else-is_some, in_default-via-in_default}

pub returns-in-Some : goal.returns-in-Some
returns-in-Some c =
    let a = c.args in
    let f = sym (c.is_some.ensures ∙ ap is_some c.find.ensures) ∙ c.if-is_some.true in
    rw c.in-Some.is (sprung_called c.in-Some.name a.last _ _ a.held a.bytes.now a.stack a.arena.now a.ends.now a.firsts.now a.seconds.now a.texts _ _ _ c.call.ensures
    (text_there c.in-Some.name a.firsts.now a.seconds.now a.texts f))

pub returns-in_default : goal.returns-in_default
returns-in_default c =
    let a = c.args in
    elim c.in_default.branch [
      | in_default-via-in-Some+else-is_some w ↦
          let f = sym (w.is_some.ensures ∙ ap is_some w.find.ensures) ∙ w.if-is_some.false in
          rw w.in-Some.is
          (sprung_held (Some w.in-Some.name) a.last a.held a.bytes.now a.stack a.arena.now a.ends.now a.firsts.now a.seconds.now a.texts _ _ _ c.hold.ensures c.requires.1 c.requires.0.few
          (text_missing w.in-Some.name a.firsts.now a.seconds.now a.texts f))
      | in_default-via-in_default w ↦
          rw w.in_default.is
          (sprung_held None a.last a.held a.bytes.now a.stack a.arena.now a.ends.now a.firsts.now a.seconds.now a.texts _ _ _ c.hold.ensures c.requires.1 c.requires.0.few (λ st ks ls i. refl))
    ]
