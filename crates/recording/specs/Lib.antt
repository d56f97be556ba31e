pub mod Bytes
pub mod Day
pub mod Recording
