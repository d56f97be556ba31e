pub mod Back
pub mod Good
pub mod Lists
pub mod One
