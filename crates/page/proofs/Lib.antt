pub mod EachLaws
pub mod InEveryModel
pub mod LeftLaws
pub mod PageLaws
pub mod Promises
