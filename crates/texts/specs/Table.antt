pub mod Table
pub mod Places
pub mod Changes
pub mod KeptLaws
pub mod Checks
pub mod Lent
