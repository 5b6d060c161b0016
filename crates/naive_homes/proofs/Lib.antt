pub mod Reading
pub mod Ways
pub mod Tables
pub mod Transfers
pub mod Blocks
pub mod Paths
pub mod Homes
