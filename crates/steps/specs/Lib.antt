pub mod Steps
pub mod Working
