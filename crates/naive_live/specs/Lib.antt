pub mod Live
pub mod Function
pub mod Worked
