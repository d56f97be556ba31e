pub mod Given
pub mod Readings
pub mod Bursts
pub mod Numbers
