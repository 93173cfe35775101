-- What one server does between two events.
pub mod Planned
pub mod PlannedLaws
pub mod SpellBooks
pub mod SpellEvent
pub mod SpellKeeps
pub mod SpellLeaves
