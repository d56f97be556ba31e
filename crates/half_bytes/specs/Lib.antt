pub mod Clocks
pub mod HalfBytes
