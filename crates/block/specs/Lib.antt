pub mod Fields
pub mod Faults
pub mod Made
