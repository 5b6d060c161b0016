pub mod Asked
pub mod Simple
pub mod Loops
pub mod For
pub mod DoWhile
pub mod Blocks
pub mod Starts
pub mod Dispatching
