pub mod Follow
pub mod Rounds
pub mod Same
pub mod Sound
