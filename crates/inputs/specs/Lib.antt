pub mod Receives
