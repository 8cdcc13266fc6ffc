pub mod Quiet
pub mod Turns
pub mod Taking
pub mod Leading
pub mod Going
pub mod Inside
