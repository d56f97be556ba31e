pub mod Capturing
