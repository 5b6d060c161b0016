pub mod Fits
pub mod Lines
pub mod Instances
pub mod Printing
