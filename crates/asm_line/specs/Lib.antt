pub mod Answers
pub mod Spacing
pub mod Shown
pub mod Law
