pub mod Faults
pub mod Scopes
pub mod Types
pub mod Expressions
pub mod Functions
pub mod Statements
pub mod Program
pub mod Laws
