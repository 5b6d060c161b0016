pub mod Seeing
pub mod Assigning
pub mod Doing
pub mod Plain
