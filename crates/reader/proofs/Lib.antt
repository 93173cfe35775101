pub mod InEveryModel
pub mod Promises
pub mod ReaderLaws
