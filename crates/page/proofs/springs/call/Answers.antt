-- `page::springs::call` meets its contract. Assumes nothing.
use Rattle.std.proofs.Common.{◌≡◌, ◌+◌, ap, ◌∙◌, arith}
use Rattle.std.specs.Int.{from_bool}
use Rattle.page.specs.Springs.Held.{held_count, last_count}
use Rattle.page.proofs.springs.Stacks.{held_counted, last_counted, not_called, was_called}
use Rattle.page.proofs.springs.call.Goals as goal
use Rattle.page.proofs.springs.call.Goals.{After-from-2}

-- how many items there would be
items : (c : After-from-2) → let a = c.args in a.stack.depth + c.from.result + 1 + c.from-2.result ≡ a.stack.depth + held_count a.held + 1 + last_count a.last
items c =
    let a = c.args in
    omega (arith, c.from.ensures ∙ ap from_bool c.is_some.ensures ∙ held_counted a.held, c.from-2.ensures ∙ last_counted a.last)

pub returns-then-items-gt16 : goal.returns-then-items-gt16
returns-then-items-gt16 c =
    let a = c.args in
    not_called a.name a.count a.arguments.now a.given.now a.held a.bytes.now a.last a.stack a.arena.now a.ends.now c.requires.0.few c.requires.0.columns
    (omega (arith, items (goal.at.returns-then-items-gt16 c).After-from-2))

pub returns : goal.returns
returns c =
    let a = c.args in
    was_called a.name a.count a.arguments.now a.given.now a.held a.bytes.now a.last a.stack a.arena.now a.ends.now _ _ _ c.hold-under.ensures _ _ _ c.push.ensures
    c.requires.1 c.requires.3 (omega (arith, items (goal.at.returns c).After-from-2))
