pub mod Frames
pub mod FrameLaws
pub mod Items
pub mod ItemLaws
