-- Which job is served, and the finishes.
pub mod AllFinished
pub mod AtLeastOne
pub mod FinishList
pub mod InOrder
pub mod JobBooks
pub mod Jobs
pub mod Lined
pub mod Opened
pub mod OpenedLaws
