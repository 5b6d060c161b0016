pub mod Calling
pub mod Invoking
pub mod Talking
