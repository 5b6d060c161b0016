pub mod Glue
pub mod Numbers
pub mod Plain
pub mod Jobs
pub mod Flat
