pub mod Event
pub mod Front
pub mod Sizes
pub mod Walk
