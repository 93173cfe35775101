pub mod Moves
pub mod Ranges
pub mod Server
