pub mod Exact
pub mod Minimum
