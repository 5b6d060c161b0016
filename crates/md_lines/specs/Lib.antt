pub mod Parts
pub mod Kept
pub mod Fields
pub mod Seen
pub mod Fronts
