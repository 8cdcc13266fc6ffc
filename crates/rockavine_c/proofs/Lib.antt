pub mod Again
pub mod Inside
