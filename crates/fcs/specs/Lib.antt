pub mod Bytes
pub mod CheckSequence
pub mod Division
pub mod Polynomial
pub mod ShiftRegister
