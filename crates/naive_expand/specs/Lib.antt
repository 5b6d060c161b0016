pub mod Frames
pub mod Codes
pub mod Units
