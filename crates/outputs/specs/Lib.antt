pub mod Outputs
pub mod Runs
