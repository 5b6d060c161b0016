pub mod Traps
pub mod Linking
pub mod Bytes
pub mod Whole
pub mod Joined
pub mod Settling
