pub mod Operators
pub mod Lacks
pub mod Laws
