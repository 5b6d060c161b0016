pub mod Linked
pub mod Runs
pub mod Example
pub mod Sound
