pub mod TicksLaws
