pub mod Places
pub mod CheckLaws
