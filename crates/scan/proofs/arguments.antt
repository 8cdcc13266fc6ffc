pub mod Parts
pub mod Parting
