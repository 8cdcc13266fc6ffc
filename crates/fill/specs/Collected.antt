pub mod Writing
pub mod Filled
