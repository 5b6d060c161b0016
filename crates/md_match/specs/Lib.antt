pub mod Slots
pub mod Find
pub mod Searches
pub mod Ways
pub mod Does
pub mod Leaves
pub mod Tasks
