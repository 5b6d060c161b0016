pub mod Joined
pub mod Whole
pub mod Lists
pub mod Declarations
pub mod InRange
pub mod RowsMade
