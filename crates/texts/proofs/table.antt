pub mod Lists
pub mod Laws
pub mod ChangeLaws
pub mod CheckLaws
