pub mod Pitches
pub mod Scales
pub mod Rounding
pub mod ScaleLaws
pub mod RoundingLaws
pub mod Counts
pub mod Worked
