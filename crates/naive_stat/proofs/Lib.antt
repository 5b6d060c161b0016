pub mod Resting
pub mod NoCases
pub mod Folds
pub mod Declaring
pub mod Labels
pub mod Loops
pub mod Switching
pub mod Entering
