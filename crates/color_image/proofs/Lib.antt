pub mod Transfers
pub mod Blocks
pub mod Routines
pub mod Images
pub mod Rows
