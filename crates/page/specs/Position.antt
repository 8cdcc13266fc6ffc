pub mod Landing
pub mod LandingLaws
