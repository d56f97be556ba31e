pub mod LongReports
