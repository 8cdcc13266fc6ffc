-- `line_execution::table_requests::remove` meets its contract. Assumes nothing.
use Rattle.line_execution.proofs.table_requests.Parted.{removed_as, removes_line}
use Rattle.line_execution.proofs.table_requests.remove.Goals as goal

pub returns : goal.returns
returns c =
    let a = c.args in
    removed_as _ _ c.remove.ensures (λ s. removes_line a.printer a.line.now _ _ _ c.arguments-given.ensures s _ c.argument-name.ensures)
