pub mod Filter
pub mod Meaning
