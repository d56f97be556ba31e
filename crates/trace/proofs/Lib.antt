pub mod Bytes
pub mod Good
pub mod Judged
pub mod Looked
pub mod Passes
