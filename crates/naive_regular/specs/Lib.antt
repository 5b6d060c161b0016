pub mod Regular
pub mod Operators
pub mod Laws
