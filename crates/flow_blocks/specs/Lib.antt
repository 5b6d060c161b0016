pub mod Jumps
pub mod Flows
pub mod Making
