pub mod FilledLaws
pub mod GrowthLaws
pub mod Promises
pub mod RecordsLaws
