pub mod Names
pub mod Least
pub mod Tests
pub mod Roles
pub mod Broken
pub mod Slots
