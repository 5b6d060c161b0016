pub mod Bytes
pub mod Lengths
pub mod Front
pub mod Steps
pub mod Lines
mod Digits
mod Found
