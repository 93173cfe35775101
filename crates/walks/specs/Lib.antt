pub mod AsksNothing
pub mod OneOutcome
