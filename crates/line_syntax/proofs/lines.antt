pub mod PlaceLaws
pub mod BackLaws
