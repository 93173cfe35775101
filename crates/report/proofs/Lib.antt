pub mod AfterRunLaws
pub mod LengthLaws
pub mod LineLengthLaws
pub mod PartsLaws
pub mod Promises
pub mod RanLaws
pub mod ReportLaws
pub mod UnusedBytes
