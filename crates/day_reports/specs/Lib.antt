pub mod DayReports
