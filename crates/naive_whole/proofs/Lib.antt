pub mod Start
pub mod Whole
mod Meeting
