pub mod Outcomes
pub mod Rows
pub mod Sets
pub mod Branches
pub mod Telling
