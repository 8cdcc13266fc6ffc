pub mod Output
pub mod Escapes
pub mod Arguments
pub mod Expansion
