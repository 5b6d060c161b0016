pub mod Operations
pub mod Codes
pub mod Images
pub mod Example
