pub mod Glue
pub mod Lines
pub mod Laws
