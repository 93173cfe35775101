pub mod BelowLaws
pub mod CountLaws
pub mod FirstLaws
pub mod PlacesLaws
pub mod SumLaws
pub mod TestLaws
pub mod TotalsLaws
