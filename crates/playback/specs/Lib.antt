pub mod Playing
pub mod Turns
