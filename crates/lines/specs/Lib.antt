pub mod Taking
pub mod Reading
