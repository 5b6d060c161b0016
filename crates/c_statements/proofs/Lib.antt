pub mod Scopes
pub mod Arms
