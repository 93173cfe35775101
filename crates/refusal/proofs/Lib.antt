pub mod AcceptedLaws
pub mod OnPaperLaws
pub mod Promises
