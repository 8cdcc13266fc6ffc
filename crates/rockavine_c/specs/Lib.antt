pub mod Replies
-- what a call from C promises
pub mod Calls
-- condition 3 over it
pub mod Condition
