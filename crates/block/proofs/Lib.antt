pub mod Blocks
pub mod Clearing
pub mod Parts
pub mod Right
pub mod Ways
pub mod Weights
