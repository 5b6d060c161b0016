pub mod Writing
pub mod Numbers
pub mod Whole
pub mod Covered
pub mod Coding
