pub mod Bits
pub mod Exactly
