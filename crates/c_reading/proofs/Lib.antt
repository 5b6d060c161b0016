pub mod Deeper
pub mod Enough
