pub mod Lengths
pub mod Layout
