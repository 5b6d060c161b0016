pub mod Rewrites
pub mod Finish
pub mod Settled
pub mod Stored
