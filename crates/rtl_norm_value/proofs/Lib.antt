pub mod Operators
pub mod Words
pub mod Seen
pub mod Value
pub mod Sorted
pub mod Alike
pub mod Same
mod Moved
pub mod WordViews
