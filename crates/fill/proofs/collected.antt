pub mod Writing
pub mod Placing
