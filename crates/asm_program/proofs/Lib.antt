pub mod Saying
pub mod Walking
pub mod OneProgram
pub mod EmptyText
