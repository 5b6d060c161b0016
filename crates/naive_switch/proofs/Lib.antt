pub mod Labels
pub mod Entering
pub mod Switching
