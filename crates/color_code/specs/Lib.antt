pub mod Colors
pub mod Greedy
pub mod Laws
