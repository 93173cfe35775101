-- Who is picked: the winner tree.
pub mod Climb
pub mod Keys
pub mod Winners
