pub mod Checks
pub mod StackLaws
pub mod SoundLaws
