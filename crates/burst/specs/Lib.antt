pub mod Burst
pub mod Turns
pub mod Taken
