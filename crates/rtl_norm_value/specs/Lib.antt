pub mod Kept
pub mod Effect
pub mod Moved
