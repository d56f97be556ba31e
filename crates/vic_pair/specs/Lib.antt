pub mod Vics
