pub mod Export
pub mod Import
