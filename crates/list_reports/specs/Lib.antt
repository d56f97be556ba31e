pub mod ListReports
