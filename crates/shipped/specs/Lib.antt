pub mod Pdp11
pub mod Mips
pub mod Shipped
