pub mod Table
pub mod Interpolation
pub mod Checks
