pub mod Routines
pub mod Realised
