pub mod Captured
pub mod Claims
pub mod Exported
