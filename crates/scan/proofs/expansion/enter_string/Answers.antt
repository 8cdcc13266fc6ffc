-- `scan::expansion::enter_string` meets its contract: a law for each kind of text. Assumes nothing.
use Rattle.scan.proofs.expansion.Actions.{entered_none, entered_string}
use Rattle.scan.proofs.expansion.enter_string.Goals as goal

pub returns-in_default : goal.returns-in_default
returns-in_default c = entered_none (rw c.in_default.is at c.look_up-found.ensures)

pub returns-in-String-2 : goal.returns-in-String-2
returns-in-String-2 c = entered_string (rw c.in-Some.is at c.look_up-found.ensures) c.in-String-2.is c.if-depth-ge-DEPTH_LIMIT.false
