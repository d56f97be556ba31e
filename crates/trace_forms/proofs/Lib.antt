pub mod Bytewise
pub mod Fronts
pub mod Lists
pub mod Header
pub mod Blockwise
pub mod Back
pub mod Form
