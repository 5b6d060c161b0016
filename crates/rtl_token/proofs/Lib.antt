pub mod Numbers
pub mod Longest
pub mod Cuts
pub mod Spans
