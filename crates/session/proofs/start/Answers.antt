use Rattle.session.proofs.start.Goals as goal

pub returns : goal.returns
returns c =
    rw (c.recorded.ensures, c.start_place.ensures)
