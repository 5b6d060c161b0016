pub mod Code
pub mod Helpers
pub mod Operators
pub mod Law
