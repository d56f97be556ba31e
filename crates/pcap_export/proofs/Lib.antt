pub mod Lengths
pub mod Refused
pub mod Turns
pub mod Ways
