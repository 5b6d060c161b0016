pub mod Prefix
pub mod Growth
pub mod Sameness
pub mod Reaching
pub mod Stepping
pub mod Simulation
pub mod Different
pub mod Stuttering
mod Counting
