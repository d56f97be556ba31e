pub mod Reason
pub mod Status
