pub mod Labels
pub mod Doable
pub mod Expandable
pub mod Bounds
pub mod Fitting
pub mod Example
