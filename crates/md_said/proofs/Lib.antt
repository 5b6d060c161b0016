pub mod Lists
pub mod Unbroken
pub mod Registers
pub mod Forms
pub mod Fillings
pub mod Whole
pub mod Limits
