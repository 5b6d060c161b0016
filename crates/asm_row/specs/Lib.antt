pub mod Line
pub mod Readable
pub mod Reading
pub mod Walk
pub mod Found
pub mod Index
