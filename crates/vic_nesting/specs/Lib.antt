pub mod Accesses
pub mod Taken
pub mod Nested
pub mod Sizes
pub mod Deep
