pub mod Glue
pub mod Numbers
pub mod Jobs
