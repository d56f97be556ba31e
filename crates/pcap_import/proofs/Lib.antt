pub mod Filling
pub mod Lengths
pub mod Ways
