pub mod Layout
pub mod Placed
pub mod Worked
