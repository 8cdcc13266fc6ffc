pub mod TableSteps
pub mod ExpandedLines
