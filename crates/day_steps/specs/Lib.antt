pub mod DaySteps
pub mod Replayed
