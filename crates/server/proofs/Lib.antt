pub mod MoveLaws
pub mod PassedOverLaws
pub mod Potential
pub mod PotentialLaws
pub mod Promises
pub mod RangeLaws
pub mod WakingLaws
