pub mod ReadOnlyLaws
