-- `line_execution::table_requests::assign` meets its contract. Assumes nothing.
use Rattle.line_execution.proofs.table_requests.Parted.{assigned_as, assigns_line}
use Rattle.line_execution.proofs.table_requests.assign.Goals as goal

pub returns : goal.returns
returns c =
    let a = c.args in
    assigned_as _ _ c.assign_parted.ensures (λ s. assigns_line a.printer a.line.now _ _ _ c.arguments-given.ensures s)
