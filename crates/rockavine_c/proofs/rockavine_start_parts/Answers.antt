use Rattle.rockavine_c.proofs.rockavine_start_parts.Goals as goal

pub returns : goal.returns
returns c =
    rw (c.write_place.ensures.are, c.start_place.ensures)
