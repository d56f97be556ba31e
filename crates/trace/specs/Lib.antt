pub mod Judge
pub mod Passes
pub mod Reading
pub mod Scattered
