pub mod Bursts
