pub mod DayProof
pub mod ReplayedProof
