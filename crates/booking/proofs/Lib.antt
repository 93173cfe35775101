pub mod AdmissionLaws
pub mod Promises
pub mod ShareLaws
pub mod SheetLaws
