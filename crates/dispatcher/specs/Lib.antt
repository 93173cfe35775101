pub mod Course
pub mod Moves
pub mod Pick
pub mod Start
pub mod Within
