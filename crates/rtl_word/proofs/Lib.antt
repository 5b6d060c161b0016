pub mod Below
pub mod Sums
pub mod Products
pub mod Bitwise
pub mod Shifts
pub mod Comparisons
pub mod Quotients
