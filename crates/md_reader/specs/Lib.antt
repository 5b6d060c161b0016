pub mod Refused
pub mod Ranges
pub mod RowsMade
