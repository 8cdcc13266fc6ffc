pub mod Dealing
pub mod DealingLaws
pub mod BodyLaws
