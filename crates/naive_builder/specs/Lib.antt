pub mod Covered
pub mod Appending
pub mod Finished
