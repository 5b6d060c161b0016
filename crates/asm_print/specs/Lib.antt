pub mod Written
pub mod Layout
pub mod Printable
pub mod Law
