pub mod PageState
