pub mod Layouts
pub mod LayoutLaws
