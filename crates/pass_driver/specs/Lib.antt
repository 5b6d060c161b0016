pub mod Compiling
pub mod Passes
pub mod Codes
pub mod Units
pub mod Meaning
