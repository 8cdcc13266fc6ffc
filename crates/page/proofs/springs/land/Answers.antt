-- `page::springs::land` meets its contract. Assumes nothing.
use Rattle.std.proofs.Common.{◌≡◌, Some}
use Rattle.page.proofs.springs.Stacks.{landed_on}
use Rattle.page.proofs.springs.land.Goals as goal

pub returns-in-Ok-Some : goal.returns-in-Ok-Some
returns-in-Ok-Some c =
    let a = c.args in
    let r = c.in-Ok-Some.reached in
    let e : c.in-Ok-Some.field-0 ≡ Some r = rw c.in-Ok-Some.is at c.in-Ok-Some.field-0-is in
    rw (c.land_called.ensures, c.in-Ok-Some.is, e)
    (landed_on a.page a.held a.bytes.now a.stack a.arena.now a.ends.now a.firsts.now a.seconds.now a.texts r.page r.trap _ _ _ c.spring-called.ensures)
