-- `composition::filling::fill_placed` meets its contract. Assumes nothing.
use Rattle.composition.proofs.filling.fill_placed.Goals as goal

pub returns-in-Err : goal.returns-in-Err
returns-in-Err c = rw c.in-Err.is c.overflow.ensures
