pub mod Folds
pub mod Leaving
pub mod Initialising
pub mod Statements
pub mod Bodies
