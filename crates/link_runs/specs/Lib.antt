pub mod Found
pub mod Sizes
pub mod Units
