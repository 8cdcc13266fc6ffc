-- what a call promises
pub mod Contract
-- condition 3, over what a call promises
pub mod Calls
-- the starting record, and condition 3 from it on
pub mod Start
-- the limits of a record, judged
pub mod Limits
-- what a reader must know of the promises: the conditions of acceptance
pub mod Acceptance
