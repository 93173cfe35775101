-- What only private contracts of this crate cite: nothing here has to be believed.
pub mod Bandwidth
pub mod Counted
pub mod Lists
pub mod Live
pub mod Segments
