pub mod Spreading
pub mod Rows
pub mod Layouts
