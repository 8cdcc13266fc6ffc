pub mod Columns
pub mod Single
pub mod Lent
pub mod Places
pub mod Moves
pub mod Answers
