pub mod Spilling
pub mod Passing
