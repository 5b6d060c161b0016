pub mod Seen
pub mod Unary
pub mod Collected
pub mod Answering
