pub mod Ranges
pub mod Numbers
pub mod Covers
pub mod Subjects
