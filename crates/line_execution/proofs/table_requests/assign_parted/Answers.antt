-- `line_execution::table_requests::assign_parted` meets its contract. Assumes nothing.
use Rattle.line_execution.proofs.table_requests.Parted.{assigned_as, assigns_known}
use Rattle.line_execution.proofs.table_requests.assign_parted.Goals as goal

pub returns : goal.returns
returns c =
    let a = c.args in
    assigned_as _ _ c.assign.ensures (λ s. assigns_known a.printer _ _ _ _ _ _ s c.argument-name.ensures c.argument-value.ensures c.argument-step.ensures)
