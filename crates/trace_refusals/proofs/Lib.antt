pub mod ReadingProof
pub mod ReplayProof
pub mod WritingProof
