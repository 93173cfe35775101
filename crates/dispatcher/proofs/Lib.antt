pub mod MoveLaws
pub mod MoveOnPaperLaws
pub mod PickLaws
pub mod Promises
pub mod RefusedLaws
pub mod SofarLaws
pub mod StartLaws
