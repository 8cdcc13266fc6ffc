-- `input_stack::stack::push` meets its contract. Assumes nothing.
use Rattle.input_stack.proofs.stack.Laws.{pushed}
use Rattle.input_stack.proofs.stack.push.Goals as goal

pub returns : goal.returns
returns c =
    let a = c.args in let e = c.put_entry.ensures in
    rw (c.copy_in.ensures, c.copy_in-2.ensures, e.0, c.requires.3)
    (pushed a.stack a.arena.now a.ends.now a.what a.bytes.now a.given.now c.requires.0 e.1 c.requires.1 c.requires.2 c.requires.3)
