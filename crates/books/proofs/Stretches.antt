-- The stretch that a run is in, and the segments that have ended.
pub mod Interruptions
pub mod Segmented
pub mod Segments
pub mod Stretches
pub mod Turns
