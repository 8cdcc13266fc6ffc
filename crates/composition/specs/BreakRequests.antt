pub mod Acting
pub mod Obeying
