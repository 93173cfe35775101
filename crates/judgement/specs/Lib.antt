pub mod Judgement
pub mod Unused
pub mod Working
