pub mod Codes
pub mod Putting
