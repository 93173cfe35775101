pub mod Layout
pub mod Work
