pub mod Settling
pub mod Work
