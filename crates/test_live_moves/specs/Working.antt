-- What only private contracts of this crate cite: nothing here has to be believed.
pub mod Played
