pub mod Length
pub mod Seen
pub mod Refusals
pub mod Gives
pub mod Settling
