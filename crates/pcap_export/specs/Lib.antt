pub mod Export
pub mod Places
