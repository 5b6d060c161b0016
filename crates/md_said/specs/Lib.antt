pub mod Sound
pub mod Limits
