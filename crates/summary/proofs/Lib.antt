pub mod BoundLaws
pub mod InterruptedLaws
pub mod Promises
pub mod SummaryLaws
