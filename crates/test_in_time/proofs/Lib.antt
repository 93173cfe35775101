pub mod BandwidthLaws
pub mod CountedLaws
pub mod ListsLaws
pub mod LiveLaws
