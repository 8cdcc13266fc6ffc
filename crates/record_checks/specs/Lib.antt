pub mod Soundness
pub mod StateLimits
