pub mod ExportProof
pub mod ImportProof
