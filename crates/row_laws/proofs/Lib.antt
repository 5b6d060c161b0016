pub mod Rows
pub mod Filled
pub mod Placed
pub mod Formed
