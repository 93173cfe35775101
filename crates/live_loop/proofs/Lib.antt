pub mod InEveryModel
pub mod Promises
pub mod RefusedLaws
pub mod TwoForms
pub mod TwoFormsLaws
