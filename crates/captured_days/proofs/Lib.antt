pub mod Days
pub mod Exporting
pub mod Right
