pub mod TwoForms
