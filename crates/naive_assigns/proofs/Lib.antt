pub mod Assigning
pub mod Compounding
