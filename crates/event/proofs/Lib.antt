pub mod Ahead
pub mod Fronts
pub mod Laws
pub mod Places
