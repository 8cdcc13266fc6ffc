pub mod Frames
pub mod Stack
