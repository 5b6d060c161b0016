pub mod Ahead
pub mod Reach
pub mod Ranges
pub mod DataLines
