pub mod Parsers
pub mod Trees
pub mod Expressions
pub mod Ahead
