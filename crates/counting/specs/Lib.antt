pub mod Events
pub mod Counted
pub mod Ticks
