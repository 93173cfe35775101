pub mod Admission
pub mod Share
pub mod Sheet
pub mod Working
