pub mod Whole
pub mod WholeLaws
pub mod Statuses
pub mod Steps
