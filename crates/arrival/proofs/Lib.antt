pub mod ArrivalLaws
pub mod Promises
