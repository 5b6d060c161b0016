pub mod Tests
pub mod Choosing
