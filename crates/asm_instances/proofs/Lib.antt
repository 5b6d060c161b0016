pub mod Items
pub mod Bound
pub mod LinesLeft
