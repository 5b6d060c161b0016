pub mod Overlap
pub mod Premises
pub mod Tests
pub mod Least
