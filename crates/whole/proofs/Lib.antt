pub mod Lain
pub mod Shown
