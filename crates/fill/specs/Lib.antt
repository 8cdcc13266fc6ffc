pub mod Words
pub mod Collected
pub mod Unfilled
