-- From event to event, to the horizon.
pub mod ArrivalTaken
pub mod AtHorizon
pub mod BeforeArrivals
pub mod BetweenEvents
pub mod EventBooks
pub mod Events
pub mod IdleTime
pub mod Kept
pub mod NoMoveRefused
pub mod Stands
pub mod Travels
pub mod WholeRun
