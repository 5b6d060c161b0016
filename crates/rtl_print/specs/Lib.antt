pub mod Seen
pub mod Appending
