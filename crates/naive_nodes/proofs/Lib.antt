pub mod Folds
pub mod Nodes
pub mod Expressions
