pub mod Registers
pub mod Access
