pub mod Elements
pub mod Clearing
pub mod Lists
