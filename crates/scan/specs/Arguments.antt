pub mod Around
pub mod Parting
