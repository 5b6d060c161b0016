pub mod Renaming
pub mod Does
