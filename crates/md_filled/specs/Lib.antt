pub mod Held
pub mod Plain
pub mod Law
pub mod Doing
