pub mod Sums
pub mod Weights
pub mod Capped
pub mod Depths
pub mod Frames
pub mod Limits
pub mod First
