pub mod Registers
pub mod Lent
