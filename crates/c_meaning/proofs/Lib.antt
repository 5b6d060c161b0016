pub mod Below
pub mod Expressions
pub mod Statements
pub mod Runs
pub mod WorkedRuns
pub mod Agreement
