pub mod Escapes
pub mod Totals
pub mod Givens
pub mod Actions
pub mod Steps
pub mod Driver
