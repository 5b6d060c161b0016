pub mod Patterns
pub mod Operands
pub mod Rows
pub mod Elementary
pub mod Instances
