pub mod Trees
pub mod Transfers
pub mod Units
