pub mod Laws
pub mod Middles
pub mod Rows
