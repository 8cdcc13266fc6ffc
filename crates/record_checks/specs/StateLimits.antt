pub mod LimitChecks
pub mod LimitLaws
