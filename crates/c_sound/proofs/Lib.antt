mod Outcomes
mod Fine
mod Expressions
mod Statements
mod Runs
mod Nodes
pub mod Judged
pub mod Walked
pub mod Programs
