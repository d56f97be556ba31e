pub mod Sends
pub mod Runs
pub mod Outputs
