pub mod AheadLaws
pub mod BandwidthLaws
pub mod CourseLaws
pub mod Demand3Laws
pub mod FilesLaws
pub mod MovedLaws
pub mod RunCourseLaws
pub mod StandingLaws
