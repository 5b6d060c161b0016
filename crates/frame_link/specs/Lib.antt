pub mod Linked
pub mod Tested
