pub mod Seen
pub mod Emitted
pub mod Opened
pub mod Sorts
pub mod Operands
pub mod Tables
