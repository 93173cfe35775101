pub mod GivenLaws
pub mod MomentLaws
pub mod OneGo
pub mod OneGoLaws
pub mod PostponedLaws
pub mod ToldLaws
