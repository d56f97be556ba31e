pub mod Branches
pub mod Memories
pub mod Devices
pub mod Statuses
pub mod Bursts
pub mod Stopped
pub mod Nowhere
pub mod Corollaries
