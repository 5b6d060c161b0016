pub mod FirstLine
pub mod FirstPlaces
pub mod Kept
pub mod Opening
pub mod Says
pub mod Tokens
