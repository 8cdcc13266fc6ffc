pub mod Lines
pub mod Places
pub mod Meanings
pub mod Backs
