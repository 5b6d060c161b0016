pub mod HoleNames
pub mod MovesRead
pub mod Readings
