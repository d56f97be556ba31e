pub mod Clocks
pub mod ExclusiveOr
pub mod HalfBytes
