pub mod Acts
pub mod Expansion
