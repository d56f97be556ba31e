pub mod Marks
pub mod Tellings
pub mod Nestings
pub mod Sizing
pub mod FiveDeep
