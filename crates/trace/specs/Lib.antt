pub mod Segments
pub mod Ticks
pub mod Trace
pub mod Written
