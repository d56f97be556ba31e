pub mod Ranks
pub mod Answered
pub mod Taking
pub mod Refusals
