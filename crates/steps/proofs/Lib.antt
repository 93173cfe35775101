pub mod Promises
pub mod StepLaws
