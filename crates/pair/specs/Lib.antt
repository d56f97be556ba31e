pub mod Pair
pub mod Turn
