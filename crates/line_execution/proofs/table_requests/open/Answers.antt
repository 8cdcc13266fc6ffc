-- `line_execution::table_requests::open` meets its contract. Assumes nothing.
use Rattle.line_execution.proofs.table_requests.Parted.{opened_line}
use Rattle.line_execution.proofs.table_requests.open.Goals as goal

pub returns : goal.returns
returns c =
    let a = c.args in
    opened_line a.printer a.line.now _ _ _ c.arguments-given.ensures c.open_named.result _ c.argument-name.ensures c.open_named.ensures
