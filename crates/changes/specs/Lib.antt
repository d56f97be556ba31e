pub mod OneOf
pub mod Regions
pub mod Parts
pub mod Nowhere
