pub mod Records
pub mod working
