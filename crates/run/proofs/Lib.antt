pub mod OutcomeLaws
pub mod OutcomeOnPaperLaws
pub mod PassedLaws
pub mod Promises
pub mod RivalLaws
pub mod UnusedBytes
