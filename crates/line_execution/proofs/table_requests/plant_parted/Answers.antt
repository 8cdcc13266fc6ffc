-- `line_execution::table_requests::plant_parted` meets its contract. Assumes nothing.
use Rattle.line_execution.proofs.table_requests.Parted.{planted_as, plants_known}
use Rattle.line_execution.proofs.table_requests.plant_parted.Goals as goal

pub returns : goal.returns
returns c =
    let a = c.args in
    planted_as _ _ c.plant.ensures (λ s. plants_known a.printer _ _ _ _ s c.argument-row.ensures c.argument-name.ensures)
