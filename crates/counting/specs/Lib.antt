pub mod Below
pub mod Count
pub mod First
pub mod Places
pub mod Sum
pub mod Totals
