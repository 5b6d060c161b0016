pub mod Colored
pub mod Code
