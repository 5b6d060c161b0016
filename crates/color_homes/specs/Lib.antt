pub mod Spilled
pub mod Putting
pub mod Loading
