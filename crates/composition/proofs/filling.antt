pub mod Works
pub mod Fills
