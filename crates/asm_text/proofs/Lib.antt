pub mod Standing
pub mod DataPart
pub mod Joined
pub mod Whole
pub mod Assembling
pub mod Different
pub mod Placed
