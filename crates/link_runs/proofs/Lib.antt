pub mod Found
pub mod Glue
pub mod Sizes
pub mod Units
