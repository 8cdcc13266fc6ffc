pub mod Places
pub mod Buffers
pub mod Decimals
