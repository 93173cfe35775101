pub mod FinishLaws
pub mod ListLaws
