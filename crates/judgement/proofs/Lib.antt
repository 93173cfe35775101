pub mod FitLaws
pub mod JudgementLaws
pub mod PassedLaws
pub mod Promises
pub mod RefusedLaws
pub mod UnusedLaws
