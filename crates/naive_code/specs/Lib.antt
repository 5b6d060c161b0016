pub mod Expressions
pub mod Functions
pub mod Operations
pub mod Statements
pub mod Storage
pub mod Worked
