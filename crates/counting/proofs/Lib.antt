pub mod More
pub mod Adds
pub mod Calls
pub mod Theorem
pub mod Ticks
pub mod Off
