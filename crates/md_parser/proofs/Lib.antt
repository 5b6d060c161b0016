pub mod Beginnings
pub mod PlainTexts
pub mod BarTexts
pub mod KindsOfLines
pub mod LinesDeclared
pub mod FirstTold
