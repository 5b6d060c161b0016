mod Numbers
mod Closes
mod Positions
mod Reaching
mod Unique
mod Longest
pub mod Ends
