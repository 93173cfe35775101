pub mod Demand3
pub mod Files
pub mod Got
