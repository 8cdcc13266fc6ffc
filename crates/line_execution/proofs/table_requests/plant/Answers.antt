-- `line_execution::table_requests::plant` meets its contract. Assumes nothing.
use Rattle.line_execution.proofs.table_requests.Parted.{planted_as, plants_line}
use Rattle.line_execution.proofs.table_requests.plant.Goals as goal

pub returns : goal.returns
returns c =
    let a = c.args in
    planted_as _ _ c.plant_parted.ensures (λ s. plants_line a.printer a.line.now _ _ _ c.arguments-given.ensures s)
