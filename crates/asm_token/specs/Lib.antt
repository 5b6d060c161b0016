pub mod Tokens
pub mod Length
pub mod Line
pub mod Law
pub mod Seen
