pub mod AsksNothingLaws
pub mod Locals
pub mod OneOutcomeLaws
pub mod Steps
pub mod Turns
