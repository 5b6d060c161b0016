pub mod Loops
pub mod Example
