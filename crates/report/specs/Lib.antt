pub mod DayReport
pub mod Working
