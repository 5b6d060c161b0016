pub mod Renamed
pub mod Reading
