pub mod Here
pub mod Types
pub mod Values
