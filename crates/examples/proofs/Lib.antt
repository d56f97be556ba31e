pub mod Examples
pub mod Bursts
pub mod Hashes
pub mod Polling
pub mod Unpolled
pub mod Ticks
