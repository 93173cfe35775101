pub mod OpeningLaws
pub mod Promises
