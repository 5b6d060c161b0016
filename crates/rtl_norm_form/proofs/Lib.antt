pub mod Constructs
pub mod Depth
pub mod Flags
pub mod WellFormed
pub mod Leaves
