pub mod Live
pub mod Traces
