pub mod Places
pub mod Literals
pub mod Cases
pub mod Arguments
