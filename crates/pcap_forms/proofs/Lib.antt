pub mod Back
pub mod Checks
pub mod Entries
pub mod Form
pub mod Records
