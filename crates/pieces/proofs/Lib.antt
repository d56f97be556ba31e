pub mod Joined
pub mod Options
pub mod Turns
