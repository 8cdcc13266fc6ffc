pub mod PageRows
pub mod Filling
pub mod BreakRequests
pub mod NoBreakRequests
pub mod TextCalls
