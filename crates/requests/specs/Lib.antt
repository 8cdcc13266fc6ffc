pub mod Nr
pub mod Wh
pub mod Definitions
