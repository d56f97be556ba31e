pub mod Comparison
pub mod Exits
