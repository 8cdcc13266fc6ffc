pub mod Position
pub mod Springs
