pub mod Addition
pub mod ByteIn
pub mod FourBytes
pub mod Meaning
pub mod Register
pub mod Remainder
pub mod WireOrder
