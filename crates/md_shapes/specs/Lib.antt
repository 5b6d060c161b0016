pub mod Patterns
pub mod Shapes
pub mod Drawings
