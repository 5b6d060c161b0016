pub mod Runs
pub mod Cases
pub mod Clearing
pub mod Functions
