pub mod LiveLaws
pub mod TracesLaws
