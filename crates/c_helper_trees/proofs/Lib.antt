mod Stores
pub mod Nodes
mod Terms
mod Codes
mod Bodies
pub mod Calls
pub mod Frames
