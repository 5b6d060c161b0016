pub mod Spelled
pub mod Printable
pub mod Fitting
pub mod Reading
