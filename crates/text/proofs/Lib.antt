pub mod InEveryModel
pub mod LengthLaws
pub mod LineLaws
pub mod Promises
