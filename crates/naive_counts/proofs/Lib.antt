mod Longest
pub mod Folds
mod Expressions
mod Statements
mod Functions
mod Depths
mod Deepest
mod Homes
