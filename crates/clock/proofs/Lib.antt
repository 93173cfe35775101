pub mod ClockLaws
pub mod OrderLaws
pub mod Promises
