pub mod Putting
pub mod Ways
