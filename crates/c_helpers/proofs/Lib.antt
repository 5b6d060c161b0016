mod Repeats
pub mod Steps
mod Gathering
mod Products
mod Dividing
mod Quotients
mod Shifts
pub mod Whole
