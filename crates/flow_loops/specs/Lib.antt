pub mod Loops
pub mod Looping
