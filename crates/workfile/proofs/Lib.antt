pub mod LayoutLaws
pub mod Promises
