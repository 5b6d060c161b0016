pub mod Collecting
pub mod Outcomes
pub mod Reprinted
