-- `composition::text_calls::call` meets its contract. Assumes nothing.
use Rattle.composition.proofs.text_calls.Calls.{calls_text}
use Rattle.composition.proofs.text_calls.call.Goals as goal

pub returns : goal.returns
returns c =
    let a = c.args in let b = c.requires.0 in
    let p = c.arguments-count in
    rw c.land.ensures
    (calls_text a.firsts.now a.seconds.now a.texts a.planted a.layout a.page a.collected a.cells.now a.stack a.arena.now a.ends.now a.row.now b.sound b.items b.long
    a.name a.line.now _ _ _ _ _ _ _ c.call-called.ensures p.ensures.is c.requires.2)
